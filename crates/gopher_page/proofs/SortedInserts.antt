-- Lists in strict order stay in strict order when elements are inserted one by one.
use Rattle.std.proofs.Common.{◌≡◌, List, [], ◌∷◌, refl, ◌∙◌, ap}
use Rattle.std.proofs.lemmas.List.Elements.{All-from_recursion, recursion_from_All}
use Rattle.std.proofs.lemmas.Map.Views.{All-insert_key}
use Rattle.std.specs.List.{fold, AllByRecursion}
use Rattle.std.specs.List.Sorted.{IsStrictlySortedBy}
use Rattle.std.specs.Ordering.{match_ordering, ordering_reverse}
use Rattle.std.specs.declared.cmp.Ordering.{Ordering}
use Rattle.std.specs.declared.cmp.Ordering.TheVariants.{Less, Equal, Greater}
use Rattle.std.specs.BTreeSet.{insert_key}
use Rattle.std.specs.Cmp.{IsTotalOrder}

module _ {K : Type 0} {R : K → K → Ordering} (o : IsTotalOrder R) where
  pub flipped : (a b : K) → R a b ≡ Greater → R b a ≡ Less
  flipped a b e = o.antisymm b a ∙ ap ordering_reverse e

  pub all_after : (a b : K) (xs : List K) → R a b ≡ Less → AllByRecursion (λ y. R b y ≡ Less) xs → AllByRecursion (λ y. R a y ≡ Less) xs
  all_after a b [] less all = tt
  all_after a b (x ∷ xs) less all = (o.trans a b x less all.0, all_after a b xs less all.1)

  all_with : (a k : K) (xs : List K) → R a k ≡ Less → AllByRecursion (λ y. R a y ≡ Less) xs → AllByRecursion (λ y. R a y ≡ Less) (insert_key R xs k)
  all_with a k xs less all =
      let after : K → Type 0 = λ y. R a y ≡ Less in
      recursion_from_All after (insert_key R xs k) (All-insert_key R k after xs (All-from_recursion after xs all) less)

  sorted_with : (xs : List K) (k : K) → IsStrictlySortedBy R xs → IsStrictlySortedBy R (insert_key R xs k)
  unfolding IsStrictlySortedBy
  sorted_with [] k sorted = (tt, tt)
  sorted_with (x ∷ xs) k sorted = by (R k x) refl (sorted_with xs k sorted.1)
    where
      by : (r : Ordering) → R k x ≡ r → IsStrictlySortedBy R (insert_key R xs k) → IsStrictlySortedBy R (match_ordering r (k ∷ x ∷ xs) (x ∷ xs) (x ∷ insert_key R xs k))
      by Less e rest = ((e, all_after k x xs e sorted.0), sorted)
      by Equal e rest = sorted
      by Greater e rest = (all_with x k xs (flipped k x e) sorted.0, rest)

  sorted_along : (held xs : List K) → IsStrictlySortedBy R held → IsStrictlySortedBy R (fold (insert_key R) held xs)
  sorted_along held [] sorted = sorted
  sorted_along held (x ∷ xs) sorted = sorted_along (insert_key R held x) xs (sorted_with held x sorted)

  sorted_none : IsStrictlySortedBy R []
  unfolding IsStrictlySortedBy
  sorted_none = tt

  -- a list of elements inserted one by one is sorted
  pub sorted_inserts : (xs : List K) → IsStrictlySortedBy R (fold (insert_key R) [] xs)
  sorted_inserts xs = sorted_along [] xs sorted_none
