-- The paths of a tree in byte order.
use Rattle.std.proofs.Common.{◌≡◌, ℕ, Option, cond, ◌||◌, eqb, List, [], ◌∷◌, map, None, Some, is_some, Result, Ok, Err, IfOk, refl, sym, ap, subst, ◌∙◌}
use Rattle.std.specs.List.{AllByRecursion, list_any}
use Rattle.std.specs.List.Sorted.{IsStrictlySortedBy}
use Rattle.std.specs.declared.cmp.Ordering.{Ordering}
use Rattle.std.specs.declared.cmp.Ordering.TheVariants.{Less}
use Rattle.std.specs.Ordering.{is_eq, nat_cmp}
use Rattle.std.specs.Cmp.Lexicographic.{pointwise, slice_cmp, texts_ties}
use Rattle.std.specs.BTreeMap.{BTreeMap, keys}
use Rattle.std.specs.Map.{keys_of, lookup}
use Rattle.std.specs.declared.vec.Vec.{Vec}
use Rattle.std.proofs.lemmas.Map.Made.{is_some-lookup}
use Rattle.gopher_tree.specs.Files.{File, is_path_among, nodes, AreNodes}
use Rattle.gopher_tree.specs.Tree.{entry_at, HoldsPaths, ArePathsOf}
use Rattle.gopher_tree.proofs.NodeLemmas.{is_root}

below_map : {A B : Type 0} (c : B → B → Ordering) (f : A → B) (x : A) (xs : List A) → AllByRecursion (λ y. c (f x) (f y) ≡ Less) xs → AllByRecursion (λ y. c (f x) y ≡ Less) (map f xs)
below_map c f x [] h = tt
below_map c f x (y ∷ ys) h = (h.0, below_map c f x ys h.1)

sorted_map : {A B : Type 0} (c : B → B → Ordering) (f : A → B) (xs : List A) → IsStrictlySortedBy (λ x y. c (f x) (f y)) xs → IsStrictlySortedBy c (map f xs)
unfolding IsStrictlySortedBy
sorted_map c f [] h = tt
sorted_map c f (x ∷ xs) h = (below_map c f x xs h.0, sorted_map c f xs h.1)

-- the root comes before all keys
root_below : {A X : Type 0} (entries : List (Vec ℕ A × X)) → lookup (λ key. is_eq (slice_cmp nat_cmp [] key.items)) entries ≡ None → AllByRecursion (λ path. slice_cmp nat_cmp [] path ≡ Less) (map (λ key. key.items) (keys_of entries))
root_below [] none = tt
root_below (e ∷ entries) none = by e.0.items none (root_below entries)
  where
    by : (key : List ℕ) → cond (is_eq (slice_cmp nat_cmp [] key)) (Some e.1) (lookup (λ k. is_eq (slice_cmp nat_cmp [] k.items)) entries) ≡ None
        → (lookup (λ k. is_eq (slice_cmp nat_cmp [] k.items)) entries ≡ None → AllByRecursion (λ path. slice_cmp nat_cmp [] path ≡ Less) (map (λ k. k.items) (keys_of entries)))
        → (slice_cmp nat_cmp [] key ≡ Less) × AllByRecursion (λ path. slice_cmp nat_cmp [] path ≡ Less) (map (λ k. k.items) (keys_of entries))
    by [] h rest = absurd cc
    by (c ∷ key) h rest = (refl, rest h)

among_keys : {A X : Type 0} (path : List ℕ) (entries : List (Vec ℕ A × X))
    → is_path_among (map (λ key. key.items) (keys_of entries)) path ≡ is_some (lookup (λ key. is_eq (slice_cmp nat_cmp path key.items)) entries)
among_keys path entries = same (keys_of entries) ∙ sym (is_some-lookup (λ key. is_eq (slice_cmp nat_cmp path key.items)) entries)
  where
    same : {A : Type 0} (held : List (Vec ℕ A)) → is_path_among (map (λ key. key.items) held) path ≡ list_any (λ key. is_eq (slice_cmp nat_cmp path key.items)) held
    same [] = refl
    same (key ∷ held) = ap (λ t. t || is_path_among (map (λ k. k.items) held) path) (texts_ties path key.items) ∙ ap (λ t. is_eq (slice_cmp nat_cmp path key.items) || t) (same held)

sorted_with_root : (paths : List (List ℕ)) → AllByRecursion (λ path. slice_cmp nat_cmp [] path ≡ Less) paths → IsStrictlySortedBy (slice_cmp nat_cmp) paths → IsStrictlySortedBy (slice_cmp nat_cmp) ([] ∷ paths)
unfolding IsStrictlySortedBy
sorted_with_root paths below sorted = (below, sorted)

nodes_are : {A : Type 0} (files : List File) (held : BTreeMap (Vec ℕ A) (Option ℕ)) (paths : List (List ℕ)) → HoldsPaths (nodes files) held → ArePathsOf held paths → AreNodes files paths
nodes_are files held paths holds are = record {
  order = subst (IsStrictlySortedBy (slice_cmp nat_cmp)) (sym are.all) (sorted_with_root _ (root_below held.entries holds.root) (sorted_map (slice_cmp nat_cmp) (λ key. key.items) (keys held) are.order));
  whole = λ path.
      ap (λ l. is_path_among l path) are.all ∙ ap (λ t. pointwise eqb path [] || t) (among_keys path held.entries)
      ∙ ap (λ t. t || is_some (entry_at held path)) (is_root path) ∙ sym (holds.known path);
}

pub nodes_if_ok : {A E P : Type 0} (shown : P → List (List ℕ)) (files seen : List File) (held : BTreeMap (Vec ℕ A) (Option ℕ)) (result : Result P E)
    → files ≡ seen → HoldsPaths (nodes files) held → IfOk result (λ paths. ArePathsOf held (shown paths)) → IfOk result (λ paths. AreNodes seen (shown paths))
nodes_if_ok shown files seen held (Ok paths) same holds are = subst (λ l. AreNodes l (shown paths)) same (nodes_are files held (shown paths) holds are)
nodes_if_ok shown files seen held (Err fault) same holds are = tt
