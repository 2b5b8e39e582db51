-- Lists in strict order: the members after elements were inserted one by one, and when two such
-- lists are equal.
use Rattle.std.proofs.Common.{◌≡◌, ◌⊎◌, ℕ, zero, suc, ◌<◌, List, [], ◌∷◌, length, inl, inr, refl, sym, ◌∙◌, ap, subst, arith, slice_index_or, fold, All, Contains, Ordering, Less, Equal, Greater}
use Rattle.std.specs.List.Sorted.{IsStrictlySortedBy}
use Rattle.std.specs.Ordering.{match_ordering, is_eq}
use Rattle.std.specs.BTreeSet.{insert_key}
use Rattle.std.specs.Cmp.{IsTotalOrder}
use Rattle.std.proofs.lemmas.Bool.{both_ways}
use Rattle.std.proofs.lemmas.Cmp.{tied_itself}
use Rattle.std.proofs.lemmas.List.Elements.{All-head, All-tail, All-contains, Contains-append_right}
use Rattle.std.proofs.lemmas.Map.Keys.{sorted_tail}
use Rattle.std.proofs.lemmas.Map.Views.{All-after_first, All-insert_key}

-- ---- members

pub contains_here : {X : Type 0} (x : X) (xs : List X) → Contains (x ∷ xs) x
contains_here x xs = (0, omega arith, refl)

pub contains_later : {X : Type 0} (y : X) (xs : List X) (x : X) → Contains xs x → Contains (y ∷ xs) x
contains_later y xs x has = Contains-append_right (y ∷ []) xs x has

pub contains_none : {X : Type 0} (x : X) → Contains [] x → ⊥
contains_none x has = omega (arith, has.1)

at_cases : {X : Type 0} (y : X) (xs : List X) (x : X) (k : ℕ) → k < length (y ∷ xs) → slice_index_or (y ∷ xs) k x ≡ x → (y ≡ x) ⊎ Contains xs x
at_cases y xs x zero within is = inl is
at_cases y xs x (suc k) within is = inr (k, omega arith, is)

pub contains_cases : {X : Type 0} (y : X) (xs : List X) (x : X) → Contains (y ∷ xs) x → (y ≡ x) ⊎ Contains xs x
contains_cases y xs x has = at_cases y xs x has.0 has.1 has.2

module _ {K : Type 0} {R : K → K → Ordering} (o : IsTotalOrder R) where
  -- ---- the members stay

  inserted_old : (xs : List K) (k x : K) → Contains xs x → Contains (insert_key R xs k) x
  inserted_old [] k x has = absurd (contains_none x has)
  inserted_old (y ∷ xs) k x has = by (R k y) (inserted_old xs k x)
    where
      behind : (Contains xs x → Contains (insert_key R xs k) x) → (y ≡ x) ⊎ Contains xs x → Contains (y ∷ insert_key R xs k) x
      behind rest (inl e) = subst (λ z. Contains (z ∷ insert_key R xs k) x) (sym e) (contains_here x (insert_key R xs k))
      behind rest (inr later) = contains_later y (insert_key R xs k) x (rest later)

      by : (r : Ordering) → (Contains xs x → Contains (insert_key R xs k) x) → Contains (match_ordering r (k ∷ y ∷ xs) (y ∷ xs) (y ∷ insert_key R xs k)) x
      by Less rest = contains_later k (y ∷ xs) x has
      by Equal rest = has
      by Greater rest = behind rest (contains_cases y xs x has)

  -- an element is inserted unless another one ties with it
  inserted_new : (xs : List K) (k : K) → ((y : K) → Contains xs y → R k y ≡ Equal → k ≡ y) → Contains (insert_key R xs k) k
  inserted_new [] k one = contains_here k []
  inserted_new (y ∷ xs) k one = by (R k y) refl (inserted_new xs k (λ z has e. one z (contains_later y xs z has) e))
    where
      by : (r : Ordering) → R k y ≡ r → Contains (insert_key R xs k) k → Contains (match_ordering r (k ∷ y ∷ xs) (y ∷ xs) (y ∷ insert_key R xs k)) k
      by Less e rest = contains_here k (y ∷ xs)
      by Equal e rest = subst (Contains (y ∷ xs)) (sym (one y (contains_here y xs) e)) (contains_here y xs)
      by Greater e rest = contains_later y (insert_key R xs k) k rest

  kept_along : (held xs : List K) (x : K) → Contains held x → Contains (fold (insert_key R) held xs) x
  kept_along held [] x has = has
  kept_along held (y ∷ xs) x has = kept_along (insert_key R held y) xs x (inserted_old held y x has)

  -- a property of all inserted elements holds for all members
  pub All-inserts : (P : K → Type 0) (held xs : List K) → All P held → All P xs → All P (fold (insert_key R) held xs)
  All-inserts P held [] old all = old
  All-inserts P held (x ∷ xs) old all = All-inserts P (insert_key R held x) xs (All-insert_key R x P held old (All-head P x xs all)) (All-tail P x xs all)

  -- if elements that tie are equal, each inserted element is a member
  pub contains_inserts : (P : K → Type 0) → ((a b : K) → P a → P b → R a b ≡ Equal → a ≡ b) → (held xs : List K) (x : K) → All P held → All P xs → Contains xs x → Contains (fold (insert_key R) held xs) x
  contains_inserts P one held [] x old all has = absurd (contains_none x has)
  contains_inserts P one held (y ∷ xs) x old all has =
      by (contains_cases y xs x has)
      (λ later. contains_inserts P one (insert_key R held y) xs x (All-insert_key R y P held old (All-head P y xs all)) (All-tail P y xs all) later)
    where
      there : Contains (insert_key R held y) y
      there = inserted_new held y (λ z has' e. one y z (All-head P y xs all) (All-contains P held z old has') e)

      by : (y ≡ x) ⊎ Contains xs x → (Contains xs x → Contains (fold (insert_key R) (insert_key R held y) xs) x) → Contains (fold (insert_key R) (insert_key R held y) xs) x
      by (inl e) rest = kept_along (insert_key R held y) xs x (subst (Contains (insert_key R held y)) e there)
      by (inr later) rest = rest later

  -- ---- one list

  not_both : (a b : K) → R a b ≡ Less → R b a ≡ Less → ⊥
  not_both a b less more = both_ways (is_eq (R a a)) (ap is_eq (o.trans a b a less more)) (ap is_eq (tied_itself o a))

  below : (x : K) (xs : List K) (y : K) → IsStrictlySortedBy R (x ∷ xs) → Contains xs y → R x y ≡ Less
  below x xs y sorted has = All-contains (λ z. R x z ≡ Less) xs y (All-after_first R x xs sorted) has

  -- two sorted lists with the same members have the same first element
  first_same : (x y : K) (xs ys : List K) → IsStrictlySortedBy R (x ∷ xs) → IsStrictlySortedBy R (y ∷ ys) → Contains (y ∷ ys) x → Contains (x ∷ xs) y → x ≡ y
  first_same x y xs ys sorted sorted' has has' = by (contains_cases y ys x has) (contains_cases x xs y has')
    where
      by : (y ≡ x) ⊎ Contains ys x → (x ≡ y) ⊎ Contains xs y → x ≡ y
      by (inl e) other = sym e
      by (inr later) (inl e) = e
      by (inr later) (inr later') = absurd (not_both x y (below x xs y sorted later') (below y ys x sorted' later))

  -- the members after the first are the same in both lists
  later_same : (x y : K) (xs ys : List K) → x ≡ y → IsStrictlySortedBy R (x ∷ xs) → (z : K) → Contains (y ∷ ys) z → Contains xs z → Contains ys z
  later_same x y xs ys same sorted z has later = by (contains_cases y ys z has)
    where
      by : (y ≡ z) ⊎ Contains ys z → Contains ys z
      by (inl e) =
          let less : R x z ≡ Less = below x xs z sorted later in
          absurd (not_both z z (subst (λ w. R w z ≡ Less) (same ∙ e) less) (subst (λ w. R w z ≡ Less) (same ∙ e) less))
      by (inr there) = there

  -- two lists in strict order with the same members are equal
  pub sorted_one : (xs ys : List K) → IsStrictlySortedBy R xs → IsStrictlySortedBy R ys → ((x : K) → Contains xs x → Contains ys x) → ((x : K) → Contains ys x → Contains xs x) → xs ≡ ys
  sorted_one [] [] sorted sorted' to from = refl
  sorted_one [] (y ∷ ys) sorted sorted' to from = absurd (contains_none y (from y (contains_here y ys)))
  sorted_one (x ∷ xs) [] sorted sorted' to from = absurd (contains_none x (to x (contains_here x xs)))
  sorted_one (x ∷ xs) (y ∷ ys) sorted sorted' to from =
      let same : x ≡ y = first_same x y xs ys sorted sorted' (to x (contains_here x xs)) (from y (contains_here y ys)) in
      let rest : xs ≡ ys = sorted_one xs ys (sorted_tail R x xs sorted) (sorted_tail R y ys sorted')
      (λ z later. later_same x y xs ys same sorted z (to z (contains_later x xs z later)) later)
      (λ z later. later_same y x ys xs (sym same) sorted' z (from z (contains_later y ys z later)) later) in
      λ i. same i ∷ rest i
