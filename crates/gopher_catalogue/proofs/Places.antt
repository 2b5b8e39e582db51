-- Lists of places: membership, duplicates, and the first distinct places up to a limit.
use Rattle.std.proofs.Common.{◌≡◌, ℕ, suc, zero, ◌+◌, ◌-◌, ◌≤◌, ◌<◌, Bool, true, false, ◌&&◌, ◌||◌, not, cond, List, [], ◌∷◌, ◌++◌, length, take, filter, min, inl, inr, refl, sym, ◌∙◌, ap, arith, count_by}
use Rattle.std.proofs.lemmas.Bool.{cases_lt, or_right}
use Rattle.std.proofs.lemmas.List.{length-take, take_all, append-nil}
use Rattle.std.proofs.lemmas.List.Elements.{filter-append, filter_agree}
use Rattle.std.proofs.lemmas.List.Folds.{list_any-append}
use Rattle.std.proofs.lemmas.Map.Views.{any-filter_same}
use Rattle.std.proofs.lemmas.List.Sums.{sum_by-cons, sum_by-append}
use Rattle.gopher_item.proofs.PlaceLemmas.{same_place-refl, same_place-true}
use Rattle.gopher_item.specs.Place.{PlaceData, same_place, is_among, distinct}

-- ---- tests

pub bools_agree : (a b : Bool) → (a ≡ true → b ≡ true) → (b ≡ true → a ≡ true) → a ≡ b
bools_agree true b f g = sym (f refl)
bools_agree false true f g = g refl
bools_agree false false f g = refl

pub filter-filter : {X : Type 0} (p q : X → Bool) (xs : List X) → filter p (filter q xs) ≡ filter (λ x. q x && p x) xs
filter-filter p q [] = refl
filter-filter p q (x ∷ xs) =
    elim (q x) as (λ b. filter p (cond b (x ∷ filter q xs) (filter q xs)) ≡ cond (b && p x) (x ∷ filter (λ x. q x && p x) xs) (filter (λ x. q x && p x) xs)) [
      | true ↦ ap (λ ys. cond (p x) (x ∷ ys) ys) (filter-filter p q xs)
      | false ↦ filter-filter p q xs
    ]

pub filter_every : {X : Type 0} (xs : List X) → filter (λ x. true) xs ≡ xs
filter_every [] = refl
filter_every (x ∷ xs) = ap (λ ys. x ∷ ys) (filter_every xs)

pub take-append : {X : Type 0} (n : ℕ) (xs ys : List X) → take n (xs ++ ys) ≡ take n xs ++ take (n - length xs) ys
take-append zero [] ys = refl
take-append (suc n) [] ys = let e : suc n - 0 ≡ suc n = omega arith in rw e refl
take-append zero (x ∷ xs) ys = let e : 0 - suc (length xs) ≡ 0 = omega arith in rw e refl
take-append (suc n) (x ∷ xs) ys =
    let e : suc n - suc (length xs) ≡ n - length xs = omega arith in
    rw e (ap (λ zs. x ∷ zs) (take-append n xs ys))

-- ---- equality of places

pub same_place_comm : (a b : PlaceData) → same_place a b ≡ same_place b a
same_place_comm a b =
    bools_agree (same_place a b) (same_place b a)
    (λ h. let e = same_place-true a b h in rw e (same_place-refl b))
    (λ h. let e = same_place-true b a h in rw e (same_place-refl a))

-- ---- each place once

pub distinct-among : (xs : List PlaceData) (p : PlaceData) → is_among (distinct xs) p ≡ is_among xs p
distinct-among [] p = refl
distinct-among (x ∷ xs) p = among_step (distinct-among xs p) (same_place p x) refl where
  among_step : is_among (distinct xs) p ≡ is_among xs p → (b : Bool) → same_place p x ≡ b → (same_place p x || is_among (filter (λ other. not (same_place x other)) (distinct xs)) p) ≡ (same_place p x || is_among xs p)
  among_step ih true e = rw e refl
  among_step ih false e =
      let differs : (k : PlaceData) → same_place p k ≡ true → not (same_place x k) ≡ true =
      λ k h. let s = same_place-true p k h in rw (← s, same_place_comm x p, e) refl in
      rw e (any-filter_same (same_place p) (λ other. not (same_place x other)) true differs (distinct xs) ∙ ih)

pub distinct-append : (xs ys : List PlaceData) → distinct (xs ++ ys) ≡ distinct xs ++ filter (λ p. not (is_among xs p)) (distinct ys)
distinct-append [] ys = sym (filter_every (distinct ys))
distinct-append (x ∷ xs) ys =
    let f : PlaceData → Bool = λ other. not (same_place x other) in
    let g : PlaceData → Bool = λ p. not (is_among xs p) in
    let agree : (p : PlaceData) → (g p && f p) ≡ not (same_place p x || is_among xs p) =
    λ p. rw (same_place_comm x p) (both (same_place p x) (is_among xs p)) in
    ap (λ zs. x ∷ filter f zs) (distinct-append xs ys) ∙ ap (λ zs. x ∷ zs) (filter-append f (distinct xs) (filter g (distinct ys)) ∙ ap (λ zs. filter f (distinct xs) ++ zs) (filter-filter f g (distinct ys) ∙ filter_agree (λ p. g p && f p) (λ p. not (same_place p x || is_among xs p)) agree (distinct ys)))
  where
    both : (a b : Bool) → (not b && not a) ≡ not (a || b)
    both true true = refl
    both true false = refl
    both false true = refl
    both false false = refl

-- ---- the first distinct places, up to a limit

-- the places known after these mentions
abbrev pub known_of : ℕ → List PlaceData → List PlaceData
known_of limit mentions = take limit (distinct mentions)

-- the number of these mentions whose place isn't known
abbrev pub dropped_of : ℕ → List PlaceData → ℕ
dropped_of limit mentions = count_by (λ p. not (is_among (known_of limit mentions) p)) mentions

pub length-known_of : (limit : ℕ) (ms : List PlaceData) → length (known_of limit ms) ≤ limit
length-known_of limit ms = omega (arith, length-take limit (distinct ms))

-- if there is room left, each mentioned place is known
pub known_of_room : (limit : ℕ) (ms : List PlaceData) → length (known_of limit ms) < limit → known_of limit ms ≡ distinct ms
known_of_room limit ms h = let fits : length (distinct ms) ≤ limit = omega (arith, length-take limit (distinct ms)) in take_all limit (distinct ms) fits

-- more mentions make the first of their unknown places known, as many as there is room for
pub known_of-append : (limit : ℕ) (xs ys : List PlaceData) → known_of limit (xs ++ ys) ≡ known_of limit xs ++ take (limit - length (known_of limit xs)) (filter (λ p. not (is_among (known_of limit xs) p)) (distinct ys))
known_of-append limit xs ys =
    let all : List PlaceData = filter (λ p. not (is_among xs p)) (distinct ys) in
    let new : List PlaceData = filter (λ p. not (is_among (known_of limit xs) p)) (distinct ys) in
    let split : known_of limit (xs ++ ys) ≡ known_of limit xs ++ take (limit - length (distinct xs)) all =
    ap (λ zs. take limit zs) (distinct-append xs ys) ∙ take-append limit (distinct xs) all in
    let long : length (known_of limit xs) ≡ min limit (length (distinct xs)) = length-take limit (distinct xs) in
    split ∙ ap (λ zs. known_of limit xs ++ zs) (elim (cases_lt (length (known_of limit xs)) limit) as (λ c. take (limit - length (distinct xs)) all ≡ take (limit - length (known_of limit xs)) new) [
      | inl room ↦
          let whole = known_of_room limit xs room in
          let agree : (p : PlaceData) → not (is_among xs p) ≡ not (is_among (known_of limit xs) p) = λ p. rw whole (ap not (sym (distinct-among xs p))) in
          let e : limit - length (distinct xs) ≡ limit - length (known_of limit xs) = omega (arith, ap length whole) in
          rw e (ap (λ zs. take (limit - length (known_of limit xs)) zs) (filter_agree (λ p. not (is_among xs p)) (λ p. not (is_among (known_of limit xs) p)) agree (distinct ys)))
      | inr full ↦
          let e1 : limit - length (distinct xs) ≡ 0 = omega arith in
          let e2 : limit - length (known_of limit xs) ≡ 0 = omega arith in
          rw (e1, e2) refl
    ])

pub known_of_full : (limit : ℕ) (xs ys : List PlaceData) → limit ≤ length (known_of limit xs) → known_of limit (xs ++ ys) ≡ known_of limit xs
known_of_full limit xs ys full =
    let e : limit - length (known_of limit xs) ≡ 0 = omega arith in
    known_of-append limit xs ys ∙ rw e (append-nil (known_of limit xs))

-- one more mention: of a known place, of an unknown one with room left, and without room
pub known_of_old : (limit : ℕ) (xs : List PlaceData) (p : PlaceData) → is_among (known_of limit xs) p ≡ true → known_of limit (xs ++ p ∷ []) ≡ known_of limit xs
known_of_old limit xs p old = known_of-append limit xs (p ∷ []) ∙ rw old (ap (λ zs. known_of limit xs ++ zs) (take_none (limit - length (known_of limit xs))) ∙ append-nil (known_of limit xs)) where
  take_none : (n : ℕ) → take n (let none : List PlaceData = [] in none) ≡ []
  take_none zero = refl
  take_none (suc n) = refl

pub known_of_new : (limit : ℕ) (xs : List PlaceData) (p : PlaceData) → is_among (known_of limit xs) p ≡ false → length (known_of limit xs) < limit → known_of limit (xs ++ p ∷ []) ≡ known_of limit xs ++ p ∷ []
known_of_new limit xs p new room = known_of-append limit xs (p ∷ []) ∙ rw new (ap (λ zs. known_of limit xs ++ zs) (take_one (limit - length (known_of limit xs)) (omega arith))) where
  take_one : (n : ℕ) → 0 < n → take n (p ∷ []) ≡ p ∷ []
  take_one zero h = absurd (omega arith)
  take_one (suc zero) h = refl
  take_one (suc (suc n)) h = refl

-- ---- dropped mentions

count_none : (test : PlaceData → Bool) (xs : List PlaceData) → ((p : PlaceData) → is_among xs p ≡ true → test p ≡ false) → count_by test xs ≡ 0
count_none test [] h = refl
count_none test (x ∷ xs) h =
    let here : test x ≡ false = h x (rw (same_place-refl x) refl) in
    let rest : count_by test xs ≡ 0 = count_none test xs (λ p m. h p (or_right (same_place p x) (is_among xs p) m)) in
    sum_by-cons (λ p. cond (test p) 1 0) x xs ∙ rw (here, rest) refl

pub dropped_of_room : (limit : ℕ) (xs : List PlaceData) → length (known_of limit xs) < limit → dropped_of limit xs ≡ 0
dropped_of_room limit xs room = count_none (λ p. not (is_among (known_of limit xs) p)) xs (λ p m. rw (known_of_room limit xs room, distinct-among xs p, m) refl)

-- a dropped mention stays dropped
pub dropped_of-append : (limit : ℕ) (xs ys : List PlaceData) → dropped_of limit (xs ++ ys) ≡ dropped_of limit xs + count_by (λ p. not (is_among (known_of limit (xs ++ ys)) p)) ys
dropped_of-append limit xs ys =
    let after : PlaceData → Bool = λ p. not (is_among (known_of limit (xs ++ ys)) p) in
    sum_by-append (λ p. cond (after p) 1 0) xs ys ∙ ap (λ n. n + count_by after ys) (elim (cases_lt (length (known_of limit xs)) limit) as (λ c. count_by after xs ≡ dropped_of limit xs) [
      | inl room ↦ count_none after xs (λ p m. rw (known_of-append limit xs ys, list_any-append (same_place p) (known_of limit xs), known_of_room limit xs room, distinct-among xs p, m) refl) ∙ sym (dropped_of_room limit xs room)
      | inr full ↦ rw (known_of_full limit xs ys full) refl
    ])

pub dropped_of_old : (limit : ℕ) (xs : List PlaceData) (p : PlaceData) → is_among (known_of limit xs) p ≡ true → dropped_of limit (xs ++ p ∷ []) ≡ dropped_of limit xs
dropped_of_old limit xs p old = dropped_of-append limit xs (p ∷ []) ∙ rw (known_of_old limit xs p old, old) (omega arith)

pub dropped_of_new : (limit : ℕ) (xs : List PlaceData) (p : PlaceData) → is_among (known_of limit xs) p ≡ false → length (known_of limit xs) < limit → dropped_of limit (xs ++ p ∷ []) ≡ dropped_of limit xs
dropped_of_new limit xs p new room =
    dropped_of-append limit xs (p ∷ []) ∙ rw (known_of_new limit xs p new room, list_any-append (same_place p) (known_of limit xs) (p ∷ []), new, same_place-refl p) (omega arith)

pub dropped_of_full : (limit : ℕ) (xs : List PlaceData) (p : PlaceData) → is_among (known_of limit xs) p ≡ false → limit ≤ length (known_of limit xs) → dropped_of limit (xs ++ p ∷ []) ≡ dropped_of limit xs + 1
dropped_of_full limit xs p new full = dropped_of-append limit xs (p ∷ []) ∙ rw (known_of_full limit xs (p ∷ []) full, new) (omega arith)
