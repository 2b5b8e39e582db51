-- Inserting into a list in its order.
use Rattle.std.proofs.Common.{◌≡◌, ℕ, zero, suc, ◌<◌, ◌≤◌, Bool, true, false, List, [], ◌∷◌, ◌++◌, length, map, take, drop, slice_get, Option, Some, None, refl, sym, ap, subst, ◌∙◌, arith}
use Rattle.std.specs.Option.{option_map_or}
use Rattle.std.specs.Ordering.{is_gt, is_eq, match_ordering, ordering_reverse}
use Rattle.std.specs.declared.cmp.Ordering.{Ordering}
use Rattle.std.specs.declared.cmp.Ordering.TheVariants.{Less, Equal, Greater}
use Rattle.std.specs.BTreeSet.{insert_key}
use Rattle.std.specs.List.{AllByRecursion}
use Rattle.std.specs.List.Sorted.{IsPartitionPoint, IsPartitionedBy, IsStrictlySortedBy}
use Rattle.std.specs.Cmp.{IsTotalOrder}
use Rattle.std.proofs.lemmas.Cmp.{then_total, on_total, back_total, nat_cmp_total}
use Rattle.gopher_item.specs.Laws.{place_cmp_total}
use Rattle.gopher_item.specs.Place.{PlaceData}
use Rattle.gopher_page.specs.Ranking.{scored_cmp}
use Rattle.gopher_page.proofs.SortedInserts.{flipped, sorted_inserts}
use Rattle.gopher_index.specs.Answer.{rank_cmp, ranked}
use Rattle.gopher_index.specs.declared.hit.Hit.{Hit}
use Rattle.std.proofs.lemmas.Bool.{both_ways}
use Rattle.std.proofs.lemmas.Option.{get_or_from_slice_get, slice_get-get_or, slice_get_within}
use Rattle.std.proofs.lemmas.List.Sums.{fold-append}
use Rattle.std.proofs.Math.Seq.{take-take}

-- ---- the first of a list

take-cons : {A : Type 0} (n : ℕ) (y : A) (ys : List A) → take n (y ∷ take n ys) ≡ take n (y ∷ ys)
take-cons zero y ys = refl
take-cons (suc n) y [] = refl
take-cons (suc n) y (z ∷ ys) = ap (λ zs. y ∷ zs) (take-cons n z ys)

-- ---- one more key

module _ {A B : Type 0} (f : A → B) (cmp : B → B → Ordering) where
  abbrev pub through : A → A → Ordering
  through a b = cmp (f a) (f b)

  pub map-insert_key : (xs : List A) (k : A) → map f (insert_key through xs k) ≡ insert_key cmp (map f xs) (f k)
  map-insert_key [] k = refl
  map-insert_key (x ∷ xs) k = by (cmp (f k) (f x)) (map-insert_key xs k)
    where
      by : (o : Ordering) → map f (insert_key through xs k) ≡ insert_key cmp (map f xs) (f k)
          → map f (match_ordering o (k ∷ x ∷ xs) (x ∷ xs) (x ∷ insert_key through xs k)) ≡ match_ordering o (f k ∷ f x ∷ map f xs) (f x ∷ map f xs) (f x ∷ insert_key cmp (map f xs) (f k))
      by Less rest = refl
      by Equal rest = refl
      by Greater rest = ap (λ ys. f x ∷ ys) rest

module _ {A : Type 0} (cmp : A → A → Ordering) (k : A) where
  -- what the key comes after
  abbrev pub comes_after : A → Bool
  comes_after x = is_gt (cmp k x)

  -- the key comes after the first `n`, and no further
  pub record StandsBehind (xs : List A) (n : ℕ) : Type 0 where
    pub before : (i : ℕ) → i < n → option_map_or comes_after (slice_get xs i) true ≡ true
    pub here : option_map_or comes_after (slice_get xs n) false ≡ false

  behind_tail : (x : A) (xs : List A) (n : ℕ) → StandsBehind (x ∷ xs) (suc n) → StandsBehind xs n
  behind_tail x xs n stands = record { before = λ i less. stands.before (suc i) (omega arith); here = stands.here }

  pub insert_key-less : (xs : List A) (n : ℕ) → n ≤ length xs → StandsBehind xs n → option_map_or (λ x. is_eq (cmp k x)) (slice_get xs n) false ≡ false → insert_key cmp xs k ≡ take n xs ++ k ∷ drop n xs
  insert_key-less [] zero within stands apart = refl
  insert_key-less [] (suc n) within stands apart = absurd (omega arith)
  insert_key-less (x ∷ xs) zero within stands apart = by (cmp k x) stands.here apart
    where
      by : (o : Ordering) → is_gt o ≡ false → is_eq o ≡ false → match_ordering o (k ∷ x ∷ xs) (x ∷ xs) (x ∷ insert_key cmp xs k) ≡ k ∷ x ∷ xs
      by Less h e = refl
      by Equal h e = absurd (both_ways true e refl)
      by Greater h e = absurd (both_ways true h refl)
  insert_key-less (x ∷ xs) (suc n) within stands apart = by (cmp k x) (stands.before 0 (omega arith)) (insert_key-less xs n (omega arith) (behind_tail x xs n stands) apart)
    where
      by : (o : Ordering) → is_gt o ≡ true → insert_key cmp xs k ≡ take n xs ++ k ∷ drop n xs → match_ordering o (k ∷ x ∷ xs) (x ∷ xs) (x ∷ insert_key cmp xs k) ≡ x ∷ (take n xs ++ k ∷ drop n xs)
      by Less h rest = absurd (both_ways false refl h)
      by Equal h rest = absurd (both_ways false refl h)
      by Greater h rest = ap (λ ys. x ∷ ys) rest

  pub insert_key-equal : (xs : List A) (n : ℕ) → StandsBehind xs n → option_map_or (λ x. is_eq (cmp k x)) (slice_get xs n) false ≡ true → insert_key cmp xs k ≡ xs
  insert_key-equal [] zero stands same = absurd (both_ways false refl same)
  insert_key-equal [] (suc n) stands same = absurd (both_ways false refl same)
  insert_key-equal (x ∷ xs) zero stands same = by (cmp k x) same
    where
      by : (o : Ordering) → is_eq o ≡ true → match_ordering o (k ∷ x ∷ xs) (x ∷ xs) (x ∷ insert_key cmp xs k) ≡ x ∷ xs
      by Less e = absurd (both_ways false refl e)
      by Equal e = refl
      by Greater e = absurd (both_ways false refl e)
  insert_key-equal (x ∷ xs) (suc n) stands same = by (cmp k x) (stands.before 0 (omega arith)) (insert_key-equal xs n (behind_tail x xs n stands) same)
    where
      by : (o : Ordering) → is_gt o ≡ true → insert_key cmp xs k ≡ xs → match_ordering o (k ∷ x ∷ xs) (x ∷ xs) (x ∷ insert_key cmp xs k) ≡ x ∷ xs
      by Less h rest = absurd (both_ways false refl h)
      by Equal h rest = absurd (both_ways false refl h)
      by Greater h rest = ap (λ ys. x ∷ ys) rest

  -- what is past the first `n` doesn't come back
  pub take-insert_key : (n : ℕ) (xs : List A) → take n (insert_key cmp (take n xs) k) ≡ take n (insert_key cmp xs k)
  take-insert_key zero xs = refl
  take-insert_key (suc n) [] = refl
  take-insert_key (suc n) (x ∷ xs) = by (cmp k x) (take-insert_key n xs)
    where
      by : (o : Ordering) → take n (insert_key cmp (take n xs) k) ≡ take n (insert_key cmp xs k)
          → take (suc n) (match_ordering o (k ∷ x ∷ take n xs) (x ∷ take n xs) (x ∷ insert_key cmp (take n xs) k)) ≡ take (suc n) (match_ordering o (k ∷ x ∷ xs) (x ∷ xs) (x ∷ insert_key cmp xs k))
      by Less rest = ap (λ ys. k ∷ ys) (take-cons n x xs)
      by Equal rest = ap (λ ys. x ∷ ys) (take-take n n xs (omega arith))
      by Greater rest = ap (λ ys. x ∷ ys) rest

-- ---- a list of candidates, seen through what they are

module _ {A B : Type 0} (f : A → B) (cmp : B → B → Ordering) (k : A) (xs : List A) (n : ℕ) (stands : StandsBehind (through f cmp) k xs n) where
  pub inserted_equal : option_map_or (λ x. is_eq (cmp (f k) (f x))) (slice_get xs n) false ≡ true → map f xs ≡ insert_key cmp (map f xs) (f k)
  inserted_equal same = ap (map f) (sym (insert_key-equal (through f cmp) k xs n stands same)) ∙ map-insert_key f cmp xs k

  pub inserted_less : n ≤ length xs → option_map_or (λ x. is_eq (cmp (f k) (f x))) (slice_get xs n) false ≡ false → map f (take n xs ++ k ∷ drop n xs) ≡ insert_key cmp (map f xs) (f k)
  inserted_less within apart = ap (map f) (sym (insert_key-less (through f cmp) k xs n within stands apart)) ∙ map-insert_key f cmp xs k

pub get_through : {A B : Type 0} (f : A → B) (P : B → Bool) (d : Bool) (xs : List A) (n : ℕ) → option_map_or (λ x. P (f x)) (slice_get xs n) d ≡ option_map_or P (slice_get (map f xs) n) d
get_through f P d [] n = refl
get_through f P d (x ∷ xs) zero = refl
get_through f P d (x ∷ xs) (suc n) = get_through f P d xs n

-- the place up to which the elements of a list pass a test, by its elements
pub stands_at : {A : Type 0} (P : A → Bool) (xs : List A) (n : ℕ) → IsPartitionPoint (λ x. P x ≡ true) (λ x. P x ≡ false) xs n → ((i : ℕ) → i < n → option_map_or P (slice_get xs i) true ≡ true) × (option_map_or P (slice_get xs n) false ≡ false)
stands_at {A} P xs n point = (
  λ i below. read (slice_get xs i) i true refl (λ x e. ap P (sym (get_or_from_slice_get xs i x x e)) ∙ point.0 i x (omega arith) below),
  read (slice_get xs n) n false refl (λ x e. ap P (sym (get_or_from_slice_get xs n x x e)) ∙ point.1 n x (omega arith) (slice_get_within xs n x e)),
)
  where
    read : (o : Option A) (i : ℕ) (d : Bool) → slice_get xs i ≡ o → ((x : A) → slice_get xs i ≡ Some x → P x ≡ d) → option_map_or P o d ≡ d
    read None i d e here = refl
    read (Some x) i d e here = here x e

-- ---- candidates that come too late

module _ {K : Type 0} (cmp : K → K → Ordering) (total : IsTotalOrder cmp) where
  greater_from_less : (a b : K) → cmp a b ≡ Less → cmp b a ≡ Greater
  greater_from_less a b e = total.antisymm b a ∙ ap ordering_reverse e

  first_below : (x : K) (xs : List K) (n : ℕ) (k : K) → AllByRecursion (λ y. cmp x y ≡ Less) xs → option_map_or (λ y. is_gt (cmp k y)) (slice_get xs n) false ≡ true → cmp k x ≡ Greater
  first_below x [] n k all beyond = absurd (both_ways false refl beyond)
  first_below x (y ∷ ys) zero k all beyond = by (cmp k y) refl beyond
    where
      by : (o : Ordering) → cmp k y ≡ o → is_gt o ≡ true → cmp k x ≡ Greater
      by Less e h = absurd (both_ways false refl h)
      by Equal e h = absurd (both_ways false refl h)
      by Greater e h = greater_from_less x k (total.trans x y k all.0 (flipped total k y e))
  first_below x (y ∷ ys) (suc n) k all beyond = first_below x ys n k all.1 beyond

  -- a key behind the one of an index is behind each up to it
  pub behind_up_to : (xs : List K) (n : ℕ) (i : ℕ) (k : K) → IsStrictlySortedBy cmp xs → option_map_or (λ y. is_gt (cmp k y)) (slice_get xs n) false ≡ true → i ≤ n → option_map_or (λ y. is_gt (cmp k y)) (slice_get xs i) true ≡ true
  unfolding IsStrictlySortedBy
  behind_up_to [] n i k sorted beyond within = absurd (both_ways false refl beyond)
  behind_up_to (x ∷ xs) zero zero k sorted beyond within = beyond
  behind_up_to (x ∷ xs) zero (suc i) k sorted beyond within = absurd (omega (arith, within))
  behind_up_to (x ∷ xs) (suc n) zero k sorted beyond within = ap is_gt (first_below x xs n k sorted.0 beyond)
  behind_up_to (x ∷ xs) (suc n) (suc i) k sorted beyond within = behind_up_to xs n i k sorted.1 beyond (omega (arith, within))

  -- the keys that another one comes after are the first of a list in order
  pub sorted_parted : {A : Type 0} (f : A → K) (xs : List A) (k : K) → IsStrictlySortedBy cmp (map f xs) → IsPartitionedBy (λ x. is_gt (cmp k (f x))) xs
  sorted_parted f xs k sorted i j d order within after =
      let passes : K → Bool = λ y. is_gt (cmp k y) in
      let there = sym (get_through f passes false xs j) ∙ ap (λ o. option_map_or (λ x. passes (f x)) o false) (slice_get-get_or xs j d within) ∙ after in
      ap (λ o. option_map_or (λ x. passes (f x)) o true) (sym (slice_get-get_or xs i d (omega (arith, order, within)))) ∙ get_through f passes true xs i ∙ behind_up_to (map f xs) j i k sorted there order

  -- a key behind the one of an index isn't among those up to it
  insert_beyond : (xs : List K) (n : ℕ) (k : K) → IsStrictlySortedBy cmp xs → option_map_or (λ y. is_gt (cmp k y)) (slice_get xs n) false ≡ true → take (suc n) (insert_key cmp xs k) ≡ take (suc n) xs
  unfolding IsStrictlySortedBy
  insert_beyond [] n k sorted beyond = absurd (both_ways false refl beyond)
  insert_beyond (x ∷ xs) zero k sorted beyond = by (cmp k x) beyond
    where
      by : (o : Ordering) → is_gt o ≡ true → take 1 (match_ordering o (k ∷ x ∷ xs) (x ∷ xs) (x ∷ insert_key cmp xs k)) ≡ x ∷ []
      by Less h = absurd (both_ways false refl h)
      by Equal h = absurd (both_ways false refl h)
      by Greater h = refl
  insert_beyond (x ∷ xs) (suc n) k sorted beyond =
      ap (λ o. take (suc (suc n)) (match_ordering o (k ∷ x ∷ xs) (x ∷ xs) (x ∷ insert_key cmp xs k))) (first_below x xs n k sorted.0 beyond)
      ∙ ap (λ ys. x ∷ ys) (insert_beyond xs n k sorted.1 beyond)

  get_in_take : (P : K → Bool) (n m : ℕ) (xs : List K) → option_map_or P (slice_get (take n xs) m) false ≡ true → option_map_or P (slice_get xs m) false ≡ true
  get_in_take P zero m xs h = absurd (both_ways false refl h)
  get_in_take P (suc n) m [] h = h
  get_in_take P (suc n) zero (x ∷ xs) h = h
  get_in_take P (suc n) (suc m) (x ∷ xs) h = get_in_take P n m xs h

scored_cmp_total : IsTotalOrder scored_cmp
scored_cmp_total = then_total (on_total (λ (scored : ℕ × PlaceData). scored.0) (back_total nat_cmp_total)) (on_total (λ (scored : ℕ × PlaceData). scored.1) place_cmp_total)

pub rank_cmp_total : IsTotalOrder rank_cmp
rank_cmp_total = on_total (λ (hit : Hit). (hit.score, hit.place)) scored_cmp_total

pub ranked_none : [] ≡ take 50 (ranked [])
unfolding ranked
ranked_none = refl

ranked_push : (hits : List Hit) (hit : Hit) → ranked (hits ++ hit ∷ []) ≡ insert_key rank_cmp (ranked hits) hit
unfolding ranked
ranked_push hits hit = fold-append (insert_key rank_cmp) [] hits (hit ∷ [])

ranked_sorted : (hits : List Hit) → IsStrictlySortedBy rank_cmp (ranked hits)
unfolding ranked
ranked_sorted hits = sorted_inserts rank_cmp_total hits

sorted_take : (n : ℕ) (xs : List Hit) → IsStrictlySortedBy rank_cmp xs → IsStrictlySortedBy rank_cmp (take n xs)
unfolding IsStrictlySortedBy
sorted_take zero xs sorted = tt
sorted_take (suc n) [] sorted = tt
sorted_take (suc n) (x ∷ xs) sorted = (all_take (λ y. rank_cmp x y ≡ Less) n xs sorted.0, sorted_take n xs sorted.1)
  where
    all_take : (P : Hit → Type 0) (n : ℕ) (xs : List Hit) → AllByRecursion P xs → AllByRecursion P (take n xs)
    all_take P zero xs all = tt
    all_take P (suc n) [] all = tt
    all_take P (suc n) (x ∷ xs) all = (all.0, all_take P n xs all.1)

-- the best stand in their order
pub best_sorted : (hits best : List Hit) → best ≡ take 50 (ranked hits) → IsStrictlySortedBy rank_cmp best
best_sorted hits best e = subst (IsStrictlySortedBy rank_cmp) (sym e) (sorted_take 50 (ranked hits) (ranked_sorted hits))

-- one more hit among the best
pub best_push : (hits best : List Hit) (hit : Hit) → best ≡ take 50 (ranked hits) → take 50 (insert_key rank_cmp best hit) ≡ take 50 (ranked (hits ++ hit ∷ []))
best_push hits best hit e =
    ap (λ b. take 50 (insert_key rank_cmp b hit)) e ∙ take-insert_key rank_cmp hit 50 (ranked hits) ∙ ap (take 50) (sym (ranked_push hits hit))

-- one that comes behind the last of them
pub best_beyond : (hits best : List Hit) (hit : Hit) → best ≡ take 50 (ranked hits) → option_map_or (λ last. is_gt (rank_cmp hit last)) (slice_get best 49) false ≡ true → best ≡ take 50 (ranked (hits ++ hit ∷ []))
best_beyond hits best hit e beyond =
    let there : option_map_or (λ last. is_gt (rank_cmp hit last)) (slice_get (ranked hits) 49) false ≡ true =
    get_in_take rank_cmp rank_cmp_total (λ last. is_gt (rank_cmp hit last)) 50 49 (ranked hits) (subst (λ b. option_map_or (λ last. is_gt (rank_cmp hit last)) (slice_get b 49) false ≡ true) e beyond) in
    e ∙ sym (insert_beyond rank_cmp rank_cmp_total (ranked hits) 49 hit (ranked_sorted hits) there) ∙ ap (take 50) (sym (ranked_push hits hit))
