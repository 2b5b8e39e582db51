-- The map of a tree: after a change at one path, after folders were added, and after a file was.
use Rattle.std.proofs.Common.{◌≡◌, ℕ, zero, suc, ◌+◌, ◌<◌, Bool, true, false, cond, ◌||◌, eqb, List, [], ◌∷◌, ◌++◌, length, get_or, take, slice_get, fold, Option, None, Some, is_some, IfSome, refl, sym, ap, subst, ◌∙◌, arith, eq-eqb}
use Rattle.std.specs.Ordering.{is_eq, nat_cmp}
use Rattle.std.specs.Cmp.{eq_by_cmp_equiv}
use Rattle.std.specs.Cmp.Lexicographic.{pointwise, slice_cmp, bytes_decides, nat_list_cmp_total, nat_list_eq_equiv, texts_ties}
use Rattle.std.specs.BTreeMap.{BTreeMap, UpdatesBy, btree_map_len}
use Rattle.std.specs.Map.{KeepsOthers, IsKeyTest, AreApart, lookup}
use Rattle.std.specs.Borrow.{Bor}
use Rattle.std.specs.Option.{option_or, option_copied}
use Rattle.std.specs.declared.vec.Vec.{Vec}
use Rattle.std.proofs.Math.Bool.{or-true, or-false}
use Rattle.std.proofs.Math.Dec.{eqb-suc-zero}
use Rattle.std.proofs.lemmas.Bool.{or_parts, eqb-true}
use Rattle.std.proofs.lemmas.List.{length-append}
use Rattle.std.proofs.lemmas.List.Folds.{find-append}
use Rattle.std.proofs.lemmas.List.Sums.{fold-append}
use Rattle.std.specs.Option.{option_flatten}
use Rattle.gopher_tree.specs.Path.{folders_of, folders_within}
use Rattle.gopher_tree.specs.Files.{File, has_path, is_file, is_folder, file_at, leads_through_file, is_path_among, add_path, nodes, total_bytes}
use Rattle.gopher_tree.specs.Fault.{file_fault}
use Rattle.gopher_tree.specs.Tree.{entry_at, number_at, file_numbered, HoldsPaths, IsTree, SetsEntry, AddsFolders}
use Rattle.gopher_tree.proofs.NodeLemmas.{folders-slash, folders-other, nodes-push, is_among-add, node_is}
use Rattle.gopher_tree.proofs.FaultLemmas.{IsGood, good_of, total_bytes-push, few_bytes}

-- ---- a change at one path

apart : (bs q ks : List ℕ) → pointwise eqb q bs ≡ false → is_eq (slice_cmp nat_cmp bs ks) ≡ true → is_eq (slice_cmp nat_cmp q ks) ≡ false
apart bs q ks n y = sym (texts_ties q ks) ∙ sym (nat_list_eq_equiv.symm ks q) ∙ sym (nat_list_eq_equiv.congr bs ks q (texts_ties bs ks ∙ y)) ∙ nat_list_eq_equiv.symm bs q ∙ n

other_entries : {K X : Type 0} (eq : K → K → Bool) (test : K → Bool) (old new : List (K × X)) → KeepsOthers eq test old new → (other : K → Bool) → IsKeyTest eq other → AreApart test other → lookup other new ≡ lookup other old
unfolding KeepsOthers
other_entries eq test old new h = h

pub entries_after : {A : Type 0} (bs : List ℕ) (old new : BTreeMap (Vec ℕ A) (Option ℕ)) (entry : Option (Option ℕ))
    → UpdatesBy (λ x y. slice_cmp nat_cmp x.items y.items) (λ k. slice_cmp nat_cmp bs k.items) old new entry
    → (q : List ℕ) → entry_at new q ≡ cond (pointwise eqb q bs) entry (entry_at old q)
entries_after bs old new entry h q = by (pointwise eqb q bs) refl
  where
    by : (t : Bool) → pointwise eqb q bs ≡ t → entry_at new q ≡ cond t entry (entry_at old q)
    by true e = subst (λ l. entry_at new l ≡ entry) (sym ((bytes_decides q bs).0 e)) h.1
    by false e = other_entries _ _ _ _ h.3 _ (λ x y. (eq_by_cmp_equiv nat_list_cmp_total).congr q x.items y.items) (λ k. apart bs q k.items e)

holds_put : {A : Type 0} (paths : List (List ℕ)) (path : List ℕ) (old new : BTreeMap (Vec ℕ A) (Option ℕ)) (entry : Option ℕ) → 0 < length path
    → SetsEntry old new path entry → HoldsPaths paths old → HoldsPaths (add_path paths path) new
holds_put paths [] old new entry some set holds = absurd (omega arith)
holds_put paths (c ∷ path) old new entry some set holds = record {
  known = λ q.
      is_among-add paths (c ∷ path) q ∙ ap (λ t. t || pointwise eqb q (c ∷ path)) (holds.known q)
      ∙ turn (eqb (length q) 0) (entry_at old q) (pointwise eqb q (c ∷ path)) ∙ ap (λ e. eqb (length q) 0 || is_some e) (sym (set.entries q));
  root = set.entries [] ∙ holds.root;
  count = ap (λ t. length (cond t paths (paths ++ (c ∷ path) ∷ []))) among ∙ grow (is_some (entry_at old (c ∷ path))) set.count;
}
  where
    turn : (r : Bool) (held : Option (Option ℕ)) (t : Bool) → ((r || is_some held) || t) ≡ (r || is_some (cond t (Some entry) held))
    turn r held true = or-true (r || is_some held) ∙ sym (or-true r)
    turn r held false = or-false (r || is_some held)

    among : is_path_among paths (c ∷ path) ≡ is_some (entry_at old (c ∷ path))
    among = holds.known (c ∷ path) ∙ ap (λ t. t || is_some (entry_at old (c ∷ path))) (eqb-suc-zero (length path))

    grow : (t : Bool) → btree_map_len new ≡ btree_map_len old + cond t 0 1 → length (cond t paths (paths ++ (c ∷ path) ∷ [])) ≡ btree_map_len new + 1
    grow true h = omega (arith, h, holds.count)
    grow false h = omega (arith, h, holds.count, length-append paths ((c ∷ path) ∷ []))

-- ---- folders

none_of : {A : Type 0} (o : Option A) → is_some o ≡ false → o ≡ None
none_of None h = refl
none_of (Some x) h = absurd cc

adds_more : {A : Type 0} (old middle new : BTreeMap (Vec ℕ A) (Option ℕ)) (some more : List (List ℕ)) → AddsFolders old middle some → AddsFolders middle new more → AddsFolders old new (some ++ more)
adds_more old middle new some more first second = record {
  paths = λ paths holds. subst (λ l. HoldsPaths l new) (sym (fold-append add_path paths some more)) (second.paths (fold add_path paths some) (first.paths paths holds));
  numbers = λ q. second.numbers q ∙ first.numbers q;
}

-- the folder before a position
pub adds_slash : {A : Type 0} (old middle new : BTreeMap (Vec ℕ A) (Option ℕ)) (n : ℕ) (path : List ℕ) → 0 < n → get_or path n 0 ≡ 47
    → AddsFolders old middle (folders_within n path) → AddsFolders middle new (take n path ∷ []) → AddsFolders old new (folders_within (n + 1) path)
adds_slash old middle new n path some slash first second =
    subst (AddsFolders old new) (sym (folders-slash n path some (eq-eqb (get_or path n 0) 47 slash))) (adds_more old middle new (folders_within n path) (take n path ∷ []) first second)

pub adds_other : {A : Type 0} (old new : BTreeMap (Vec ℕ A) (Option ℕ)) (n : ℕ) (path : List ℕ) → 0 < n → (get_or path n 0 ≡ 47 → ⊥) → AddsFolders old new (folders_within n path) → AddsFolders old new (folders_within (n + 1) path)
adds_other old new n path some other added = subst (AddsFolders old new) (sym (folders-other n path some (by (eqb (get_or path n 0) 47) refl))) added
  where
    by : (t : Bool) → eqb (get_or path n 0) 47 ≡ t → t ≡ false
    by true e = absurd (other (eqb-true (get_or path n 0) 47 e))
    by false e = refl

pub adds_new : {A : Type 0} (old new : BTreeMap (Vec ℕ A) (Option ℕ)) (folder : List ℕ) → 0 < length folder → is_some (entry_at old folder) ≡ false → SetsEntry old new folder None → AddsFolders old new (folder ∷ [])
adds_new old new folder some absent set = record {
  paths = λ paths holds. holds_put paths folder old new None some set holds;
  numbers = λ q. ap option_flatten (set.entries q) ∙ by q (pointwise eqb q folder) refl;
}
  where
    by : (q : List ℕ) (t : Bool) → pointwise eqb q folder ≡ t → option_flatten (cond t (Some None) (entry_at old q)) ≡ number_at old q
    by q true e = sym (ap option_flatten (none_of (entry_at old q) (ap (λ p. is_some (entry_at old p)) ((bytes_decides q folder).0 e) ∙ absent)))
    by q false e = refl

-- ---- a tree after one more file

get_front : (files more : List File) (n : ℕ) → n < length files → slice_get (files ++ more) n ≡ slice_get files n
get_front [] more n low = absurd (omega arith)
get_front (f ∷ files) more zero low = refl
get_front (f ∷ files) more (suc n) low = get_front files more n (omega arith)

get_last : (files : List File) (file : File) → slice_get (files ++ file ∷ []) (length files) ≡ Some file
get_last [] file = refl
get_last (f ∷ files) file = get_last files file

pub copied_is_some : {A : Type 0} (found : Option (Bor A)) → is_some found ≡ is_some (option_copied found)
copied_is_some None = refl
copied_is_some (Some x) = refl

pub found_is_file : (files : List File) (q : List ℕ) → is_some (file_at files q) ≡ is_file files q
found_is_file [] q = refl
found_is_file (f ∷ files) q = by (has_path q f) (found_is_file files q)
  where
    by : (t : Bool) → is_some (file_at files q) ≡ is_file files q → is_some (cond t (Some f) (file_at files q)) ≡ (t || is_file files q)
    by true h = refl
    by false h = h

pub IsTree-push : {A : Type 0} (files : List File) (file : File) (old middle new : BTreeMap (Vec ℕ A) (Option ℕ)) (bytes : ℕ) → file_fault files file ≡ None
    → IsTree files old bytes → AddsFolders old middle (folders_of file.0) → SetsEntry middle new file.0 (Some (length files)) → IsTree (files ++ file ∷ []) new (bytes + length file.1)
IsTree-push files file old middle new bytes none tree added set = record {
  paths = subst (λ paths. HoldsPaths paths new) (sym all) (holds_put _ file.0 middle new _ good.some set (added.paths (nodes files) tree.paths));
  numbers = λ q. ap (λ e. file_numbered (files ++ file ∷ []) (option_flatten e)) (set.entries q) ∙ number q (has_path q file) refl ∙ sym (find-append (has_path q) files (file ∷ []));
  within = λ q. subst (λ e. IfSome (option_flatten e) (λ n. n < length (files ++ file ∷ []))) (sym (set.entries q)) (low q (has_path q file));
  bytes_is = bytes_is;
  few_bytes = omega (arith, few_bytes files file good.large, bytes_is);
}
  where
    good : IsGood files file
    good = good_of files file none

    all : nodes (files ++ file ∷ []) ≡ add_path (fold add_path (nodes files) (folders_of file.0)) file.0
    all =
        nodes-push files file
        ∙ ap (λ t. fold add_path (cond t (nodes files) (nodes files ++ [] ∷ [])) (folders_of file.0 ++ file.0 ∷ [])) (tree.paths.known [])
        ∙ fold-append add_path (nodes files) (folders_of file.0) (file.0 ∷ [])

    fresh : is_file files file.0 ≡ false
    fresh = (or_parts (is_file files file.0) (is_folder files file.0) (or_parts (is_file files file.0 || is_folder files file.0) (leads_through_file files file.0) good.once).0).0

    kept : (n : Option ℕ) → IfSome n (λ k. k < length files) → file_numbered (files ++ file ∷ []) n ≡ file_numbered files n
    kept None low = refl
    kept (Some n) low = get_front files (file ∷ []) n low

    or_none : (found : Option File) → found ≡ option_or found None
    or_none None = refl
    or_none (Some f) = refl

    number : (q : List ℕ) (t : Bool) → has_path q file ≡ t → file_numbered (files ++ file ∷ []) (option_flatten (cond t (Some (Some (length files))) (entry_at middle q))) ≡ option_or (file_at files q) (cond t (Some file) None)
    number q true e =
        get_last files file
        ∙ ap (λ found. option_or found (Some file)) (sym (none_of (file_at files q) (found_is_file files q ∙ ap (is_file files) ((bytes_decides q file.0).0 e) ∙ fresh)))
    number q false e = ap (file_numbered (files ++ file ∷ [])) (added.numbers q) ∙ kept (number_at old q) (tree.within q) ∙ tree.numbers q ∙ or_none (file_at files q)

    further : (n : Option ℕ) → IfSome n (λ k. k < length files) → IfSome n (λ k. k < length (files ++ file ∷ []))
    further None low = tt
    further (Some n) low = omega (arith, low, length-append files (file ∷ []))

    low : (q : List ℕ) (t : Bool) → IfSome (option_flatten (cond t (Some (Some (length files))) (entry_at middle q))) (λ n. n < length (files ++ file ∷ []))
    low q true = omega (arith, length-append files (file ∷ []))
    low q false = subst (λ n. IfSome n (λ k. k < length (files ++ file ∷ []))) (sym (added.numbers q)) (further (number_at old q) (tree.within q))

    bytes_is : bytes + length file.1 ≡ total_bytes (files ++ file ∷ [])
    bytes_is = ap (λ n. n + length file.1) tree.bytes_is ∙ sym (total_bytes-push files file)

-- ---- looking up a path

-- without a file at a path, it is a folder if it is a node
pub folder_is : (files : List File) (q : List ℕ) → file_at files q ≡ None → is_path_among (nodes files) q ≡ is_folder files q
folder_is files q none = node_is files q ∙ ap (λ t. t || is_folder files q) (sym (found_is_file files q) ∙ ap is_some none)
