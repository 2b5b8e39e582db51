-- Lists of a function's values for each number, as the states of the known places are.
use Rattle.std.proofs.Common.{◌≡◌, ◌≢◌, ℕ, suc, zero, ◌+◌, ◌≤◌, ◌<◌, ◌∷◌, ◌++◌, map, replicate, get_or, set, inl, inr, Some, slice_get, refl, sym, ◌∙◌, ap, arith}
use Rattle.std.specs.List.{range_with_len}
use Rattle.std.proofs.lemmas.List.{map-append, length-set, get_or-set_same, get_or-set_other}
use Rattle.std.proofs.lemmas.List.FromFn.{fill_by_all, length-map-range_with_len, get_or-map-range_with_len}
use Rattle.std.proofs.lemmas.Bool.{cases_eq}
use Rattle.std.proofs.lemmas.Option.{slice_get-get_or}
use Rattle.gopher_catalogue.proofs.Ranges.{range-append}

-- a function that differs at one number
pub set_map_range : {X : Type 0} (f g : ℕ → X) (n i : ℕ) (v : X) → v ≡ g i → ((k : ℕ) → k ≢ i → f k ≡ g k) → set (map f (range_with_len 0 n)) i v ≡ map g (range_with_len 0 n)
set_map_range f g n i v e h =
    let xs = map f (range_with_len 0 n) in
    let long = length-map-range_with_len f 0 n in
    fill_by_all g (set xs i v) n v (length-set xs i v ∙ long)
    (λ k within. elim (cases_eq k i) as (λ c. get_or (set xs i v) k v ≡ g k) [
      | inl same ↦ rw same (get_or-set_same xs i v v (omega (arith, same, long)) ∙ e)
      | inr ne ↦ get_or-set_other xs i k v v ne ∙ get_or-map-range_with_len f 0 n k k v within (omega arith) ∙ h k ne
    ])

-- the value at the number k
pub slice_get-map_range : {X : Type 0} (f : ℕ → X) (n k : ℕ) → k < n → slice_get (map f (range_with_len 0 n)) k ≡ Some (f k)
slice_get-map_range f n k h =
    slice_get-get_or (map f (range_with_len 0 n)) k (f k) (omega (arith, length-map-range_with_len f 0 n)) ∙ ap Some (get_or-map-range_with_len f 0 n k k (f k) h (omega arith))

-- numbers with the same value
pub replicate_map_range : {X : Type 0} (f : ℕ → X) (u : X) (a n : ℕ) → ((k : ℕ) → a ≤ k → f k ≡ u) → replicate n u ≡ map f (range_with_len a n)
replicate_map_range f u a zero h = refl
replicate_map_range f u a (suc n) h =
    let rest = replicate_map_range f u (a + 1) n (λ k l. h k (omega arith)) in
    λ i. sym (h a (omega arith)) i ∷ rest i

-- more numbers with the same value
pub extend_map_range : {X : Type 0} (f : ℕ → X) (u : X) (n m : ℕ) → ((k : ℕ) → n ≤ k → f k ≡ u) → map f (range_with_len 0 n) ++ replicate m u ≡ map f (range_with_len 0 (n + m))
extend_map_range f u n m h =
    let at : n ≡ 0 + n = omega arith in
    ap (λ l. map f (range_with_len 0 n) ++ l) (replicate_map_range f u n m h ∙ ap (λ a. map f (range_with_len a m)) at) ∙ sym (map-append f (range_with_len 0 n) (range_with_len (0 + n) m)) ∙ ap (map f) (sym (range-append 0 n m))
