-- Elements by index in a list that grows at its end.
use Rattle.std.proofs.Common.{◌≡◌, ℕ, suc, zero, ◌+◌, ◌<◌, List, [], ◌∷◌, ◌++◌, length, map, take, get_or, ◌⊎◌, inl, inr, Some, refl, sym, ◌∙◌, ap, arith, slice_get, option_map}
use Rattle.std.proofs.lemmas.Bool.{cases_lt}
use Rattle.std.proofs.lemmas.Option.{slice_get_within, slice_get-map, slice_get_read}
use Rattle.std.proofs.lemmas.List.{length-map, length_push}

pub slice_get-append_left : {X : Type 0} (xs ys : List X) (k : ℕ) → k < length xs → slice_get (xs ++ ys) k ≡ slice_get xs k
slice_get-append_left [] ys k h = absurd (omega arith)
slice_get-append_left (x ∷ xs) ys zero h = refl
slice_get-append_left (x ∷ xs) ys (suc k) h = slice_get-append_left xs ys k (omega arith)

pub slice_get_last : {X : Type 0} (xs : List X) (x : X) → slice_get (xs ++ x ∷ []) (length xs) ≡ Some x
slice_get_last [] x = refl
slice_get_last (y ∷ xs) x = slice_get_last xs x

-- an element of a list with one more at its end is one of the list or the new one
pub slice_get_push_cases : {X : Type 0} (xs : List X) (x : X) (k : ℕ) (y : X) → slice_get (xs ++ x ∷ []) k ≡ Some y → ((k < length xs) × (slice_get xs k ≡ Some y)) ⊎ ((k ≡ length xs) × (x ≡ y))
slice_get_push_cases xs x k y h =
    elim (cases_lt k (length xs)) as (λ c. ((k < length xs) × (slice_get xs k ≡ Some y)) ⊎ ((k ≡ length xs) × (x ≡ y))) [
      | inl lt ↦ inl (lt, sym (slice_get-append_left xs (x ∷ []) k lt) ∙ h)
      | inr ge ↦
          let within : k < length (xs ++ x ∷ []) = slice_get_within (xs ++ x ∷ []) k y h in
          let e : k ≡ length xs = omega (arith, length_push xs x) in
          let last : slice_get (xs ++ x ∷ []) k ≡ Some x = rw e (slice_get_last xs x) in
          inr (e, cc)
    ]

pub slice_get-take : {X : Type 0} (n : ℕ) (xs : List X) (k : ℕ) → k < n → slice_get (take n xs) k ≡ slice_get xs k
slice_get-take zero xs k h = absurd (omega arith)
slice_get-take (suc n) [] k h = refl
slice_get-take (suc n) (x ∷ xs) zero h = refl
slice_get-take (suc n) (x ∷ xs) (suc k) h = slice_get-take n xs k (omega arith)

-- the next element, and the prefix that ends with it
pub take_next : {X : Type 0} (xs : List X) (n : ℕ) → n < length xs → (x : X) × (slice_get xs n ≡ Some x) × (take (suc n) xs ≡ take n xs ++ x ∷ [])
take_next [] n h = absurd (omega arith)
take_next (x ∷ xs) zero h = (x, refl, refl)
take_next (x ∷ xs) (suc n) h = let next = take_next xs n (omega arith) in (next.0, next.1, ap (λ ys. x ∷ ys) next.2)

pub slice_get_at : {X : Type 0} (xs : List X) (k : ℕ) → k < length xs → (x : X) × (slice_get xs k ≡ Some x)
slice_get_at xs k h = let next = take_next xs k h in (next.0, next.1)

-- the element at an index of a list of images
pub slice_get_shown : {X Y : Type 0} (f : X → Y) (xs : List X) (ys : List Y) (k : ℕ) (x : X) → map f xs ≡ ys → k < length ys → x ≡ get_or xs k x → slice_get ys k ≡ Some (f x)
slice_get_shown f xs ys k x same within is =
    ap (λ l. slice_get l k) (sym same) ∙ slice_get-map f xs k ∙ ap (option_map f) (slice_get_read xs (length xs) k x refl (omega (arith, ap length same, length-map xs f)) is)
