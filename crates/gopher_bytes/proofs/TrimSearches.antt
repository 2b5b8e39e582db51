-- Trimming spaces by a search for the first or the last byte that isn't a space.
use Rattle.std.proofs.Common.{◌≡◌, ℕ, zero, suc, ◌+◌, ◌<◌, Bool, true, false, ◌||◌, not, cond, eqb, List, [], ◌∷◌, ◌++◌, length, get_or, take, drop, reverse, refl, sym, ap, ◌∙◌, arith}
use Rattle.std.specs.List.{list_any}
use Rattle.std.proofs.lemmas.List.{append-nil, reverse-append, reverse-reverse, take-append-drop, take_more, length-drop, get_or-drop}
use Rattle.memchr.specs.Find.{Nowhere, Passes}
use Rattle.bstr.specs.Bytes.{is_in, not_in}
use Rattle.gopher_bytes.specs.Trim.{trim_front}
use Rattle.gopher_bytes.proofs.Splits.{list_any_nowhere}
use Rattle.gopher_bytes.proofs.Trims.{none_in_reverse}

-- the test of a byte by which the code searches
abbrev is_other : ℕ → Bool
is_other = not_in (32 ∷ [])

other : (b : ℕ) → is_other b ≡ not (eqb b 32)
unfolding is_in
other b = by (eqb b 32)
  where
    by : (t : Bool) → not (t || false) ≡ not t
    by true = refl
    by false = refl

space : (b : ℕ) → is_other b ≡ false → eqb b 32 ≡ true
space b h = by (eqb b 32) (sym (other b) ∙ h)
  where
    by : (t : Bool) → not t ≡ false → t ≡ true
    by true e = refl
    by false e = absurd cc

no_space : (b : ℕ) → is_other b ≡ true → eqb b 32 ≡ false
no_space b h = by (eqb b 32) (sym (other b) ∙ h)
  where
    by : (t : Bool) → not t ≡ true → t ≡ false
    by true e = absurd cc
    by false e = refl

parts_false : (s t : Bool) → (s || t) ≡ false → (s ≡ false) × (t ≡ false)
parts_false true t h = absurd cc
parts_false false t h = (refl, h)

-- spaces at the front are dropped
trim_front-spaces : (spaces bytes : List ℕ) → list_any is_other spaces ≡ false → trim_front (spaces ++ bytes) ≡ trim_front bytes
trim_front-spaces [] bytes none = refl
trim_front-spaces (b ∷ spaces) bytes none =
    let both = parts_false (is_other b) (list_any is_other spaces) none in
    ap (λ t. cond t (trim_front (spaces ++ bytes)) (b ∷ (spaces ++ bytes))) (space b both.0)
    ∙ trim_front-spaces spaces bytes both.1

-- any other byte stays, with the bytes after it
trim_front-other : (b : ℕ) (bytes : List ℕ) → is_other b ≡ true → trim_front (b ∷ bytes) ≡ b ∷ bytes
trim_front-other b bytes h = ap (λ t. cond t (trim_front bytes) (b ∷ bytes)) (no_space b h)

later : (b : ℕ) (bytes : List ℕ) (n : ℕ) → Nowhere (Passes is_other (b ∷ bytes)) 0 (suc n) → Nowhere (Passes is_other bytes) 0 n
later b bytes n none k low below here = none (suc k) (omega arith) (omega arith) here

first_is_space : (b : ℕ) (bytes : List ℕ) (n : ℕ) → Nowhere (Passes is_other (b ∷ bytes)) 0 (suc n) → eqb b 32 ≡ true
first_is_space b bytes n none = by (is_other b) refl
  where
    by : (t : Bool) → is_other b ≡ t → eqb b 32 ≡ true
    by true e = absurd (none 0 (omega arith) (omega arith) e)
    by false e = space b e

-- a trim at the front leaves the bytes from the first other byte on
pub trim_front_found : (bytes : List ℕ) (k : ℕ) → k < length bytes → Nowhere (Passes is_other bytes) 0 k → is_other (get_or bytes k 0) ≡ true
    → trim_front bytes ≡ drop k bytes
trim_front_found [] k within none here = absurd (omega arith)
trim_front_found (b ∷ bytes) zero within none here = trim_front-other b bytes here
trim_front_found (b ∷ bytes) (suc k) within none here =
    ap (λ t. cond t (trim_front bytes) (b ∷ bytes)) (first_is_space b bytes k none)
    ∙ trim_front_found bytes k (omega arith) (later b bytes k none) here

-- a trim of spaces alone leaves nothing
pub trim_front_nowhere : (bytes : List ℕ) → Nowhere (Passes is_other bytes) 0 (length bytes) → trim_front bytes ≡ []
trim_front_nowhere [] none = refl
trim_front_nowhere (b ∷ bytes) none =
    ap (λ t. cond t (trim_front bytes) (b ∷ bytes)) (first_is_space b bytes (length bytes) none)
    ∙ trim_front_nowhere bytes (later b bytes (length bytes) none)

-- a trim at the back leaves the bytes up to the last other byte
pub trim_back_found : (bytes : List ℕ) (k : ℕ) → k < length bytes → Nowhere (Passes is_other bytes) (k + 1) (length bytes) → is_other (get_or bytes k 0) ≡ true
    → reverse (trim_front (reverse bytes)) ≡ take (k + 1) bytes
trim_back_found bytes k within none here =
    let front = take (k + 1) bytes in
    let back = drop (k + 1) bytes in
    let shorter : Nowhere (Passes is_other back) 0 (length back) =
    λ j low below passes. none (k + 1 + j) (omega arith) (omega (arith, length-drop (k + 1) bytes)) (ap is_other (sym (get_or-drop (k + 1) bytes j 0)) ∙ passes) in
    let spaces : list_any is_other (reverse back) ≡ false = none_in_reverse is_other back (list_any_nowhere is_other back shorter) in
    let last : front ≡ take k bytes ++ get_or bytes k 0 ∷ [] = take_more bytes k 0 within in
    let turned : reverse front ≡ get_or bytes k 0 ∷ reverse (take k bytes) =
    ap reverse last ∙ reverse-append (take k bytes) (get_or bytes k 0 ∷ []) in
    let kept : trim_front (reverse front) ≡ reverse front =
    ap trim_front turned ∙ trim_front-other (get_or bytes k 0) (reverse (take k bytes)) here ∙ sym turned in
    ap (λ l. reverse (trim_front l)) (ap reverse (sym (take-append-drop (k + 1) bytes)) ∙ reverse-append front back)
    ∙ ap reverse (trim_front-spaces (reverse back) (reverse front) spaces ∙ kept)
    ∙ reverse-reverse front

pub trim_back_nowhere : (bytes : List ℕ) → Nowhere (Passes is_other bytes) 0 (length bytes) → reverse (trim_front (reverse bytes)) ≡ []
trim_back_nowhere bytes none =
    let spaces : list_any is_other (reverse bytes) ≡ false = none_in_reverse is_other bytes (list_any_nowhere is_other bytes none) in
    ap (λ l. reverse (trim_front l)) (sym (append-nil (reverse bytes))) ∙ ap reverse (trim_front-spaces (reverse bytes) [] spaces)
