-- Trimming spaces from both ends of bytes.
use Rattle.std.proofs.Common.{◌≡◌, ℕ, ◌≤◌, Bool, true, false, cond, eqb, ◌||◌, List, [], ◌∷◌, ◌++◌, length, refl, sym, ap, ◌∙◌, arith}
use Rattle.std.specs.Prelude.{reverse}
use Rattle.std.specs.List.{list_any}
use Rattle.std.proofs.lemmas.Bool.{or_parts}
use Rattle.std.proofs.lemmas.List.{reverse-append, reverse-reverse, length-append, length-reverse}
use Rattle.std.proofs.lemmas.List.Folds.{list_any-append}
use Rattle.std.proofs.lemmas.List.Sorted.{IsPermutation-reverse, list_any-IsPermutation}
use Rattle.gopher_bytes.specs.Trim.{trim_front, trim_spaces}

-- ---- a test that no byte passes

pub none_after : (test : ℕ → Bool) (xs ys : List ℕ) → list_any test (xs ++ ys) ≡ false → list_any test ys ≡ false
none_after test xs ys h = (or_parts (list_any test xs) (list_any test ys) (sym (list_any-append test xs ys) ∙ h)).1

pub none_in_reverse : (test : ℕ → Bool) (xs : List ℕ) → list_any test xs ≡ false → list_any test (reverse xs) ≡ false
none_in_reverse test xs h = sym (list_any-IsPermutation test xs (reverse xs) (IsPermutation-reverse xs)) ∙ h

-- ---- trims

-- a trim drops only spaces from the front
trim_front_rest : (xs : List ℕ) → (spaces : List ℕ) × (xs ≡ spaces ++ trim_front xs)
trim_front_rest [] = ([], refl)
trim_front_rest (x ∷ xs) = by (eqb x 32) refl (trim_front_rest xs)
  where
    by : (t : Bool) → eqb x 32 ≡ t → (spaces : List ℕ) × (xs ≡ spaces ++ trim_front xs) → (spaces : List ℕ) × (x ∷ xs ≡ spaces ++ cond (eqb x 32) (trim_front xs) (x ∷ xs))
    by true e rest = (x ∷ rest.0, rw e (ap (λ l. x ∷ l) rest.1))
    by false e rest = ([], rw e refl)

pub none_in_trim : (test : ℕ → Bool) (xs : List ℕ) → list_any test xs ≡ false → list_any test (trim_spaces xs) ≡ false
none_in_trim test xs h =
    let front = trim_front xs in
    let back = trim_front (reverse front) in
    let before = trim_front_rest xs in
    let after = trim_front_rest (reverse front) in
    let none_in_front : list_any test front ≡ false = none_after test before.0 front (ap (list_any test) (sym before.1) ∙ h) in
    let none_turned : list_any test (reverse front) ≡ false = none_in_reverse test front none_in_front in
    none_in_reverse test back (none_after test after.0 back (ap (list_any test) (sym after.1) ∙ none_turned))

trim_front-trim_front : (xs : List ℕ) → trim_front (trim_front xs) ≡ trim_front xs
trim_front-trim_front [] = refl
trim_front-trim_front (x ∷ xs) = by (eqb x 32) refl (trim_front-trim_front xs)
  where
    by : (t : Bool) → eqb x 32 ≡ t → trim_front (trim_front xs) ≡ trim_front xs → trim_front (cond (eqb x 32) (trim_front xs) (x ∷ xs)) ≡ cond (eqb x 32) (trim_front xs) (x ∷ xs)
    by true e rest = rw e rest
    by false e rest = rw (e, e) refl

trim_front-length : (xs : List ℕ) → length (trim_front xs) ≤ length xs
trim_front-length xs = let e = trim_front_rest xs in omega (arith, ap length e.1, length-append e.0 (trim_front xs))

-- a prefix of bytes without a space at the front has none at the front
trim_front_beginning : (xs ys : List ℕ) → trim_front (xs ++ ys) ≡ xs ++ ys → trim_front xs ≡ xs
trim_front_beginning [] ys h = refl
trim_front_beginning (x ∷ xs) ys h = by (eqb x 32) refl
  where
    by : (t : Bool) → eqb x 32 ≡ t → cond (eqb x 32) (trim_front xs) (x ∷ xs) ≡ x ∷ xs
    by true e =
        let short : length (trim_front (xs ++ ys)) ≤ length (xs ++ ys) = trim_front-length (xs ++ ys) in
        let long : trim_front (xs ++ ys) ≡ x ∷ (xs ++ ys) = sym (ap (λ t. cond t (trim_front (xs ++ ys)) (x ∷ (xs ++ ys))) e) ∙ h in
        absurd (omega (arith, ap length long))
    by false e = rw e refl

pub trim_spaces-trim_spaces : (xs : List ℕ) → trim_spaces (trim_spaces xs) ≡ trim_spaces xs
trim_spaces-trim_spaces xs =
    let front = trim_front xs in
    let back = trim_front (reverse front) in
    let taken = trim_front_rest (reverse front) in
    let parts : front ≡ reverse back ++ reverse taken.0 = sym (reverse-reverse front) ∙ ap reverse taken.1 ∙ reverse-append taken.0 back in
    let no_space : trim_front (reverse back) ≡ reverse back =
    trim_front_beginning (reverse back) (reverse taken.0) (ap trim_front (sym parts) ∙ trim_front-trim_front xs ∙ parts) in
    ap (λ l. reverse (trim_front (reverse l))) no_space
    ∙ ap (λ l. reverse (trim_front l)) (reverse-reverse back)
    ∙ ap reverse (trim_front-trim_front (reverse front))

none_left : (taken kept all : List ℕ) → all ≡ taken ++ kept → length kept ≡ length all → kept ≡ all
none_left [] kept all e size = sym e
none_left (x ∷ taken) kept all e size = absurd (omega (arith, ap length e, length-append (x ∷ taken) kept))

-- a trim that leaves as many bytes as there were leaves the bytes unchanged
pub trim_spaces-same_length : (xs : List ℕ) → length (trim_spaces xs) ≡ length xs → trim_spaces xs ≡ xs
trim_spaces-same_length xs size =
    let front = trim_front xs in
    let back = trim_front (reverse front) in
    let first = trim_front_rest xs in
    let last = trim_front_rest (reverse front) in
    let front_size : length front ≡ length xs = omega (
      arith,
      size,
      length-reverse back,
      length-reverse front,
      trim_front-length xs,
      trim_front-length (reverse front),
    ) in
    let back_size : length back ≡ length (reverse front) = omega (
      arith,
      size,
      length-reverse back,
      length-reverse front,
      trim_front-length xs,
      trim_front-length (reverse front),
    ) in
    ap reverse (none_left last.0 back (reverse front) last.1 back_size)
    ∙ reverse-reverse front
    ∙ none_left first.0 front xs first.1 front_size
