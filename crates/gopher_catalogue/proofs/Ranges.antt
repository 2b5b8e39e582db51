-- Ranges of numbers, and the numbers in them that pass a test.
use Rattle.std.proofs.Common.{◌≡◌, ℕ, suc, zero, ◌+◌, ◌-◌, ◌≤◌, ◌<◌, Bool, false, [], ◌∷◌, ◌++◌, filter, refl, ap, arith}
use Rattle.std.specs.List.{range_with_len}

pub range-append : (a m n : ℕ) → range_with_len a (m + n) ≡ range_with_len a m ++ range_with_len (a + m) n
range-append a zero n = let e1 : 0 + n ≡ n = omega arith in let e2 : a + 0 ≡ a = omega arith in rw (e1, e2) refl
range-append a (suc m) n =
    let e1 : suc m + n ≡ suc (m + n) = omega arith in
    let e2 : a + suc m ≡ a + 1 + m = omega arith in
    rw (e1, e2) (ap (λ xs. a ∷ xs) (range-append (a + 1) m n))

pub filter_range_agree : (p q : ℕ → Bool) (a n : ℕ) → ((m : ℕ) → a ≤ m → m < a + n → p m ≡ q m) → filter p (range_with_len a n) ≡ filter q (range_with_len a n)
filter_range_agree p q a zero h = refl
filter_range_agree p q a (suc n) h =
    let here : p a ≡ q a = h a (omega arith) (omega arith) in
    let rest : filter p (range_with_len (a + 1) n) ≡ filter q (range_with_len (a + 1) n) = filter_range_agree p q (a + 1) n (λ m l u. h m (omega arith) (omega arith)) in
    rw (here, rest) refl

pub filter_range_none : (p : ℕ → Bool) (a n : ℕ) → ((m : ℕ) → a ≤ m → m < a + n → p m ≡ false) → filter p (range_with_len a n) ≡ []
filter_range_none p a zero h = refl
filter_range_none p a (suc n) h =
    let here : p a ≡ false = h a (omega arith) (omega arith) in
    rw here (filter_range_none p (a + 1) n (λ m l u. h m (omega arith) (omega arith)))
