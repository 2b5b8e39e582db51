-- Keys of connections that are held, each once.
use Rattle.std.proofs.Common.{◌≡◌, ℕ, zero, suc, ◌+◌, ◌-◌, ◌≤◌, ◌==◌, Bool, true, false, true≢false, cond, if◌then◌else◌, List, [], ◌∷◌, ◌++◌, length, take, nat_eq, Option, None, Some, Result, Ok, Err, OnOk, OnErr, refl, sym, ap, subst, ◌∙◌, arith}
use Rattle.std.proofs.lemmas.Bool.Decides.{nat_tests}
use Rattle.std.specs.Map.{keys_of, lookup, lookup_entry, remove_entry}
use Rattle.std.specs.Option.{is_some, option_map, option_map_or}
use Rattle.lru.specs.LruCache.{LruCache, promoted, put_entries}
use Rattle.lru.proofs.CallerLemmas.{Contains-lookup_entry}
use Rattle.lru.proofs.Pairs.{lookup-lookup_entry}
use Rattle.gopher_server.specs.Held.{AreHeldOnce, added, has_key, occurs, without_key}

occurs_without : (k key : ℕ) (keys : List ℕ) → occurs k (without_key key keys) ≤ occurs k keys
occurs_without k key [] = omega arith
occurs_without k key (x ∷ xs) = grind (arith, nat_tests, occurs_without k key xs)

occurs_gone : (key : ℕ) (keys : List ℕ) → occurs key (without_key key keys) ≡ 0
occurs_gone key [] = refl
occurs_gone key (x ∷ xs) = grind (arith, nat_tests, occurs_gone key xs)

occurs_none : (key : ℕ) (keys : List ℕ) → has_key key keys ≡ false → occurs key keys ≡ 0
occurs_none key [] none = refl
occurs_none key (x ∷ xs) none = grind (arith, nat_tests, occurs_none key xs)

occurs_added : (k key : ℕ) (keys : List ℕ) → occurs k (keys ++ key ∷ []) ≡ occurs k keys + cond (key == k) 1 0
occurs_added k key [] = grind (arith, nat_tests)
occurs_added k key (x ∷ xs) = grind (arith, nat_tests, occurs_added k key xs)

occurs_left : (k key : ℕ) (ds : List (ℕ × ℕ)) → occurs k (keys_of (remove_entry (nat_eq key) ds)) ≤ occurs k (keys_of ds)
occurs_left k key [] = omega arith
occurs_left k key (d ∷ ds) = grind (arith, nat_tests, occurs_left k key ds)

occurs_one_less : (key : ℕ) (ds : List (ℕ × ℕ)) → occurs key (keys_of (remove_entry (nat_eq key) ds)) ≡ occurs key (keys_of ds) - 1
occurs_one_less key [] = refl
occurs_one_less key (d ∷ ds) = grind (arith, nat_tests, occurs_one_less key ds)

occurs_taken : (k n : ℕ) (ds : List (ℕ × ℕ)) → occurs k (keys_of (take n ds)) ≤ occurs k (keys_of ds)
occurs_taken k zero [] = omega arith
occurs_taken k (suc n) [] = omega arith
occurs_taken k zero (d ∷ ds) = omega arith
occurs_taken k (suc n) (d ∷ ds) = grind (arith, nat_tests, occurs_taken k n ds)

occurs_absent : (key : ℕ) (ds : List (ℕ × ℕ)) → lookup_entry (nat_eq key) ds ≡ None → occurs key (keys_of ds) ≡ 0
occurs_absent key [] none = refl
occurs_absent key (d ∷ ds) none = grind (arith, nat_tests, occurs_absent key ds)

module _ {X : Type 0} where
  lookup_other : (k key : ℕ) (es : List (ℕ × X)) → nat_eq k key ≡ false → lookup (nat_eq k) (remove_entry (nat_eq key) es) ≡ lookup (nat_eq k) es
  lookup_other k key [] apart = refl
  lookup_other k key (e ∷ es) apart = grind (arith, nat_tests, lookup_other k key es apart)

  pub less_once : (key : ℕ) (keys : List ℕ) (es : List (ℕ × X)) → AreHeldOnce keys es → AreHeldOnce (without_key key keys) es
  less_once key keys es once k = omega (arith, occurs_without k key keys, once k)

  pub ended_once : (key : ℕ) (keys : List ℕ) (es : List (ℕ × X)) → AreHeldOnce keys es → AreHeldOnce (without_key key keys) (remove_entry (nat_eq key) es)
  ended_once key keys es once k = by (nat_eq k key) refl
    where
      by : (same : Bool) → nat_eq k key ≡ same → occurs k (without_key key keys) ≤ (if is_some (lookup (nat_eq k) (remove_entry (nat_eq key) es)) then 1 else 0)
      by true e = let is : k ≡ key = grind (arith, nat_tests) in let none : occurs k (without_key key keys) ≡ 0 = rw is (occurs_gone key keys) in omega (arith, none)
      by false e = rw (lookup_other k key es e) (less_once key keys es once k)

  more_once : (key : ℕ) (keys : List ℕ) (es : List (ℕ × X)) → AreHeldOnce keys es → AreHeldOnce (added es key keys) es
  more_once key keys es once k = by (is_some (lookup (nat_eq key) es)) refl (has_key key keys) refl
    where
      by : (held : Bool) → is_some (lookup (nat_eq key) es) ≡ held → (has : Bool) → has_key key keys ≡ has → occurs k (added es key keys) ≤ (if is_some (lookup (nat_eq k) es) then 1 else 0)
      by false h has e = rw h (once k)
      by true h true e = rw h (rw e (once k))
      by true h false e = rw h (rw e (also (key == k) refl))
        where
          also : (same : Bool) → (key == k) ≡ same → occurs k (keys ++ key ∷ []) ≤ (if is_some (lookup (nat_eq k) es) then 1 else 0)
          also true s = let is : key ≡ k = grind (arith, nat_tests) in subst (λ j. occurs j (keys ++ key ∷ []) ≤ (if is_some (lookup (nat_eq j) es) then 1 else 0)) is (rw h (grind (arith, nat_tests, occurs_added key key keys, occurs_none key keys e)))
          also false s = grind (arith, nat_tests, occurs_added k key keys, once k)

  lookup_promoted : (k key : ℕ) (es : List (ℕ × X)) → is_some (lookup (nat_eq k) (promoted (nat_eq key) es)) ≡ is_some (lookup (nat_eq k) es)
  lookup_promoted k key es = by (lookup_entry (nat_eq key) es) refl
    where
      by : (found : Option (ℕ × X)) → lookup_entry (nat_eq key) es ≡ found → is_some (lookup (nat_eq k) (option_map_or (λ e. e ∷ remove_entry (nat_eq key) es) found es)) ≡ is_some (lookup (nat_eq k) es)
      by None e = refl
      by (Some pair) e = also (nat_eq k key) refl
        where
          at_key : nat_eq key pair.0 ≡ true
          at_key = (Contains-lookup_entry (nat_eq key) es pair e).1

          there : lookup (nat_eq key) es ≡ Some pair.1
          there = sym (lookup-lookup_entry (nat_eq key) es) ∙ ap (option_map (λ p. p.1)) e

          also : (same : Bool) → nat_eq k key ≡ same → is_some (lookup (nat_eq k) (pair ∷ remove_entry (nat_eq key) es)) ≡ is_some (lookup (nat_eq k) es)
          also true s = let is : key ≡ k = grind (arith, nat_tests) in subst (λ j. is_some (lookup (nat_eq j) (pair ∷ remove_entry (nat_eq key) es)) ≡ is_some (lookup (nat_eq j) es)) is (rw at_key (rw there refl))
          also false s = let apart : nat_eq k pair.0 ≡ false = grind (arith, nat_tests, at_key) in rw apart (ap is_some (lookup_other k key es s))

  pub promoted_once : (key : ℕ) (keys : List ℕ) (es : List (ℕ × X)) → AreHeldOnce keys es → AreHeldOnce keys (promoted (nat_eq key) es)
  promoted_once key keys es once k = rw (lookup_promoted k key es) (once k)

  pub moved : (keys : List ℕ) {after : List ℕ} (es : List (ℕ × X)) {left : List (ℕ × X)} → after ≡ keys → left ≡ es → AreHeldOnce keys es → AreHeldOnce after left
  moved keys {after} es {left} same others once = subst (λ ks. AreHeldOnce ks left) (sym same) (subst (AreHeldOnce keys) (sym others) once)

  -- keys after one was added, unless there was no memory
  pub grown_once : {A B : Type 0} (result : Result A B) (key : ℕ) (keys after : List ℕ) (es : List (ℕ × X)) → OnOk result (after ≡ added es key keys) → OnErr result (after ≡ keys) → AreHeldOnce keys es → AreHeldOnce after es
  grown_once (Ok _) key keys after es more same once = moved (added es key keys) es more refl (more_once key keys es once)
  grown_once (Err _) key keys after es more same once = moved keys es same refl once

  -- deadlines after one was removed with its connection
  pub deadline_ended : (key : ℕ) (ds : List (ℕ × ℕ)) (es : List (ℕ × X)) → AreHeldOnce (keys_of ds) es → AreHeldOnce (keys_of (remove_entry (nat_eq key) ds)) (remove_entry (nat_eq key) es)
  deadline_ended key ds es once k = by (nat_eq k key) refl
    where
      by : (same : Bool) → nat_eq k key ≡ same → occurs k (keys_of (remove_entry (nat_eq key) ds)) ≤ (if is_some (lookup (nat_eq k) (remove_entry (nat_eq key) es)) then 1 else 0)
      by true e = let is : k ≡ key = grind (arith, nat_tests) in let none : occurs k (keys_of (remove_entry (nat_eq key) ds)) ≡ 0 = rw is (at_most_one (is_some (lookup (nat_eq key) es)) refl) in omega (arith, none)
        where
          at_most_one : (held : Bool) → is_some (lookup (nat_eq key) es) ≡ held → occurs key (keys_of (remove_entry (nat_eq key) ds)) ≡ 0
          at_most_one true h = grind (arith, occurs_one_less key ds, once key)
          at_most_one false h = grind (arith, occurs_one_less key ds, once key)
      by false e = rw (lookup_other k key es e) (omega (arith, occurs_left k key ds, once k))

  -- deadlines after the earliest was removed
  pub deadline_taken : (ds : List (ℕ × ℕ)) (es : List (ℕ × X)) → AreHeldOnce (keys_of ds) es → AreHeldOnce (keys_of (take (length ds - 1) ds)) es
  deadline_taken ds es once k = omega (arith, occurs_taken k (length ds - 1) ds, once k)

  -- deadlines after one was set for a connection that is held and had none
  pub deadline_set : (key time : ℕ) (ds : LruCache ℕ ℕ) (es : List (ℕ × X)) → is_some (lookup (nat_eq key) es) ≡ true → is_some (lookup (nat_eq key) ds.entries) ≡ false → AreHeldOnce (keys_of ds.entries) es → AreHeldOnce (keys_of (put_entries nat_eq ds key time)) es
  deadline_set key time ds es held idle once k = by (lookup_entry (nat_eq key) ds.entries) refl
    where
      by : (found : Option (ℕ × ℕ)) → lookup_entry (nat_eq key) ds.entries ≡ found → occurs k (keys_of (put_entries nat_eq ds key time)) ≤ (if is_some (lookup (nat_eq k) es) then 1 else 0)
      by (Some pair) e =
          let there : is_some (lookup (nat_eq key) ds.entries) ≡ true = ap is_some (sym (lookup-lookup_entry (nat_eq key) ds.entries) ∙ ap (option_map (λ p. p.1)) e) in
          absurd (true≢false (sym there ∙ idle))
      by None e = rw e (also (key == k) refl)
        where
          also : (same : Bool) → (key == k) ≡ same → occurs k (key ∷ keys_of (take (ds.cap - 1) ds.entries)) ≤ (if is_some (lookup (nat_eq k) es) then 1 else 0)
          also true s = let is : key ≡ k = grind (arith, nat_tests) in subst (λ j. occurs j (key ∷ keys_of (take (ds.cap - 1) ds.entries)) ≤ (if is_some (lookup (nat_eq j) es) then 1 else 0)) is (rw held (grind (arith, nat_tests, occurs_taken key (ds.cap - 1) ds.entries, occurs_absent key ds.entries e)))
          also false s = grind (arith, nat_tests, occurs_taken k (ds.cap - 1) ds.entries, once k)
