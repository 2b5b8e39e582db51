-- Two lists side by side, of equal length.
use Rattle.std.proofs.Common.{◌≡◌, ℕ, zero, suc, ◌<◌, List, [], ◌∷◌, ◌++◌, length, map, take, drop, get_or, slice_get, Some, refl, ap, arith}
use Rattle.std.specs.List.{zip}
use Rattle.std.proofs.lemmas.Slice.Zip as lib

pub length-zip : {A B : Type 0} (a : List A) (b : List B) → length b ≡ length a → length (zip a b) ≡ length a
length-zip a b same = omega (arith, lib.length-zip a b)

pub firsts : {A B : Type 0} (a : List A) (b : List B) → length b ≡ length a → map (λ entry. entry.0) (zip a b) ≡ a
firsts a b same = lib.firsts-zip a b same

pub seconds : {A B : Type 0} (a : List A) (b : List B) → length b ≡ length a → map (λ entry. entry.1) (zip a b) ≡ b
seconds a b same = lib.seconds-zip a b same

pub get_or-zip : {A B : Type 0} (a : List A) (b : List B) (i : ℕ) (d : A) (e : B) → length b ≡ length a → i < length a → get_or (zip a b) i (d, e) ≡ (get_or a i d, get_or b i e)
get_or-zip a b i d e same within = lib.get_or-zip a b i (d, e) within (omega arith)

pub zip-append : {A B : Type 0} (a more_a : List A) (b more_b : List B) → length b ≡ length a → zip (a ++ more_a) (b ++ more_b) ≡ zip a b ++ zip more_a more_b
zip-append [] more_a [] more_b same = refl
zip-append [] more_a (y ∷ b) more_b same = absurd (omega arith)
zip-append (x ∷ a) more_a [] more_b same = absurd (omega arith)
zip-append (x ∷ a) more_a (y ∷ b) more_b same = ap (λ l. (x, y) ∷ l) (zip-append a more_a b more_b (omega arith))

pub zip-take : {A B : Type 0} (a : List A) (b : List B) (n : ℕ) → length b ≡ length a → zip (take n a) (take n b) ≡ take n (zip a b)
zip-take a b zero same = refl
zip-take [] [] (suc n) same = refl
zip-take [] (y ∷ b) (suc n) same = absurd (omega arith)
zip-take (x ∷ a) [] (suc n) same = absurd (omega arith)
zip-take (x ∷ a) (y ∷ b) (suc n) same = ap (λ l. (x, y) ∷ l) (zip-take a b n (omega arith))

pub zip-drop : {A B : Type 0} (a : List A) (b : List B) (n : ℕ) → length b ≡ length a → zip (drop n a) (drop n b) ≡ drop n (zip a b)
zip-drop a b zero same = refl
zip-drop [] [] (suc n) same = refl
zip-drop [] (y ∷ b) (suc n) same = absurd (omega arith)
zip-drop (x ∷ a) [] (suc n) same = absurd (omega arith)
zip-drop (x ∷ a) (y ∷ b) (suc n) same = zip-drop a b n (omega arith)

pub slice_get-zip : {A B : Type 0} (a : List A) (b : List B) (i : ℕ) (x : A) (y : B) → slice_get a i ≡ Some x → slice_get b i ≡ Some y → slice_get (zip a b) i ≡ Some (x, y)
slice_get-zip [] b i x y first second = absurd cc
slice_get-zip (p ∷ a) [] i x y first second = absurd cc
slice_get-zip (p ∷ a) (q ∷ b) zero x y first second =
    let left : p ≡ x = cc in
    let right : q ≡ y = cc in
    λ i. Some (left i, right i)
slice_get-zip (p ∷ a) (q ∷ b) (suc i) x y first second = slice_get-zip a b i x y first second
