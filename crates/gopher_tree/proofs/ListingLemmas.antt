-- Inserting names one by one into a sorted list: looking up a name, and the order of the names.
use Rattle.std.proofs.Common.{◌≡◌, ℕ, Bool, true, false, cond, List, [], ◌∷◌, fold, Option, Some, refl, sym, ap, subst, ◌∙◌}
use Rattle.std.specs.Ordering.{nat_cmp, is_eq, match_ordering, ordering_reverse}
use Rattle.std.specs.declared.cmp.Ordering.{Ordering}
use Rattle.std.specs.declared.cmp.Ordering.TheVariants.{Less, Equal, Greater}
use Rattle.std.specs.Cmp.Lexicographic.{slice_cmp, nat_list_cmp_total}
use Rattle.std.specs.List.{AllByRecursion}
use Rattle.std.specs.List.Sorted.{IsStrictlySortedBy}
use Rattle.std.specs.BTreeMap.{insert_entry, is_at}
use Rattle.std.specs.Map.{lookup, keys_of}
use Rattle.std.specs.Cmp.{eq_by_cmp_equiv}
use Rattle.std.proofs.lemmas.Map.Lookups.{exact_bytes}
use Rattle.std.proofs.lemmas.Map.Views.{tells_apart}
use Rattle.gopher_tree.specs.Files.{Child, add_child}

abbrev pub order : List ℕ → List ℕ → Ordering
order = slice_cmp nat_cmp

-- the type at a name in a list
abbrev pub at_name : List ℕ → List Child → Option ℕ
at_name name children = lookup (is_at (order name)) children

pub same_name : (a b : List ℕ) → is_eq (order a b) ≡ true → a ≡ b
same_name a b h = tells_apart exact_bytes a b h

-- looking up a name after one was inserted or replaced
pub at_name-insert : (children : List Child) (name : List ℕ) (kind : ℕ) (q : List ℕ)
    → at_name q (insert_entry order children name kind) ≡ cond (is_eq (order q name)) (Some kind) (at_name q children)
at_name-insert [] name kind q = refl
at_name-insert (e ∷ es) name kind q = by (order name e.0) refl (at_name-insert es name kind q)
  where
    twice : (t : Bool) → cond t (Some kind) (at_name q es) ≡ cond t (Some kind) (cond t (Some e.1) (at_name q es))
    twice true = refl
    twice false = refl

    turn : (s t : Bool) (rest : Option ℕ) → (s ≡ true → t ≡ true → ⊥) → cond s (Some e.1) (cond t (Some kind) rest) ≡ cond t (Some kind) (cond s (Some e.1) rest)
    turn true true rest never = absurd (never refl refl)
    turn true false rest never = refl
    turn false true rest never = refl
    turn false false rest never = refl

    by : (o : Ordering) → order name e.0 ≡ o
        → at_name q (insert_entry order es name kind) ≡ cond (is_eq (order q name)) (Some kind) (at_name q es)
        → at_name q (match_ordering o ((name, kind) ∷ e ∷ es) ((e.0, kind) ∷ es) (e ∷ insert_entry order es name kind)) ≡ cond (is_eq (order q name)) (Some kind) (at_name q (e ∷ es))
    by Less is rest = refl
    by Equal is rest =
        subst (λ n. cond (is_eq (order q e.0)) (Some kind) (at_name q es) ≡ cond (is_eq (order q n)) (Some kind) (cond (is_eq (order q e.0)) (Some e.1) (at_name q es))) (sym (exact_bytes name e.0 is)) (twice (is_eq (order q e.0)))
    by Greater is rest =
        ap (λ r. cond (is_eq (order q e.0)) (Some e.1) r) rest
        ∙ turn (is_eq (order q e.0)) (is_eq (order q name)) (at_name q es) apart
      where
        apart : is_eq (order q e.0) ≡ true → is_eq (order q name) ≡ true → ⊥
        apart h k =
            let same : name ≡ e.0 = sym (same_name q name k) ∙ same_name q e.0 h in
            let equal : is_eq (order name e.0) ≡ true = ap (λ n. is_eq (order name n)) (sym same) ∙ (eq_by_cmp_equiv nat_list_cmp_total).refl name in
            let both : true ≡ false = sym equal ∙ ap is_eq is in cc

-- ---- the names ascend

all-insert : (P : List ℕ → Type 0) (children : List Child) (name : List ℕ) (kind : ℕ) → AllByRecursion P (keys_of children) → P name → AllByRecursion P (keys_of (insert_entry order children name kind))
all-insert P [] name kind all here = (here, tt)
all-insert P (e ∷ es) name kind all here = by (order name e.0) (all-insert P es name kind all.1 here)
  where
    by : (o : Ordering) → AllByRecursion P (keys_of (insert_entry order es name kind))
        → AllByRecursion P (keys_of (match_ordering o ((name, kind) ∷ e ∷ es) ((e.0, kind) ∷ es) (e ∷ insert_entry order es name kind)))
    by Less rest = (here, all)
    by Equal rest = all
    by Greater rest = (all.0, rest)

all-below : (a b : List ℕ) (names : List (List ℕ)) → order a b ≡ Less → AllByRecursion (λ y. order b y ≡ Less) names → AllByRecursion (λ y. order a y ≡ Less) names
all-below a b [] low all = tt
all-below a b (n ∷ names) low all = (nat_list_cmp_total.trans a b n low all.0, all-below a b names low all.1)

turned : (a b : List ℕ) → order a b ≡ Greater → order b a ≡ Less
turned a b h = nat_list_cmp_total.antisymm b a ∙ ap ordering_reverse h

pub sorted-insert : (children : List Child) (name : List ℕ) (kind : ℕ) → IsStrictlySortedBy order (keys_of children) → IsStrictlySortedBy order (keys_of (insert_entry order children name kind))
unfolding IsStrictlySortedBy
sorted-insert [] name kind sorted = (tt, tt)
sorted-insert (e ∷ es) name kind sorted = by (order name e.0) refl (sorted-insert es name kind sorted.1)
  where
    by : (o : Ordering) → order name e.0 ≡ o → IsStrictlySortedBy order (keys_of (insert_entry order es name kind))
        → IsStrictlySortedBy order (keys_of (match_ordering o ((name, kind) ∷ e ∷ es) ((e.0, kind) ∷ es) (e ∷ insert_entry order es name kind)))
    by Less is rest = ((is, all-below name e.0 (keys_of es) is sorted.0), sorted)
    by Equal is rest = sorted
    by Greater is rest = (all-insert (λ y. order e.0 y ≡ Less) es name kind sorted.0 (turned name e.0 is), rest)

pub names_ascend : (names children : List Child) → IsStrictlySortedBy order (keys_of names) → IsStrictlySortedBy order (keys_of (fold add_child names children))
names_ascend names [] sorted = sorted
names_ascend names (c ∷ children) sorted = names_ascend (add_child names c) children (sorted-insert names c.0 c.1 sorted)

pub none_ascend : IsStrictlySortedBy order (keys_of {X = ℕ} [])
unfolding IsStrictlySortedBy
none_ascend = tt
