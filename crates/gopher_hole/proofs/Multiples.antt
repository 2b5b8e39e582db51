-- Numbers of bytes and brackets in arguments.
use Rattle.std.proofs.Common.{◌≡◌, ◌≢◌, ℕ, zero, ◌*◌, ◌^◌, ◌<◌, ◌≤◌, ◌⊎◌, Bool, true, false, cond, List, [], ◌∷◌, ◌++◌, codes, drop, Option, None, Some, Result, Err, MatchOption, refl, sym, ap, subst, inl, inr, arith, ◌∙◌}
use Rattle.std.proofs.Math.Nat.{lt_of_not-le, le-mul_of_pos_right}
use Rattle.std.proofs.lemmas.List.{append_cancel_right}
use Rattle.std.proofs.lemmas.Result.{OkIff-at_err}
use Rattle.std.specs.Char.{digit_value}
use Rattle.std.specs.Option.{SomeIff}
use Rattle.std.specs.Str.Parse.{AllDigits, IsNumeral, ParsesUnsigned}
use Rattle.gopher_hole.specs.Values.{IsCut, IsDecimal, IsMultiple, LacksLetter, NamesBytes, decimal_value}

-- the last letter of two equal texts
pub last_same : (xs ys : List ℕ) (a b : ℕ) → xs ++ a ∷ [] ≡ ys ++ b ∷ [] → a ≡ b
last_same [] [] a b e = cc
last_same [] (y ∷ []) a b e = absurd cc
last_same [] (y ∷ z ∷ ys) a b e = absurd cc
last_same (x ∷ []) [] a b e = absurd cc
last_same (x ∷ z ∷ xs) [] a b e = absurd cc
last_same (x ∷ xs) (y ∷ ys) a b e = let rest : xs ++ a ∷ [] ≡ ys ++ b ∷ [] = cc in last_same xs ys a b rest

all_end : (xs : List ℕ) (c : ℕ) → AllDigits 10 (xs ++ c ∷ []) → digit_value c < 10
all_end [] c d = d.0
all_end (x ∷ xs) c d = all_end xs c d.1

numeral_end : (xs : List ℕ) (c : ℕ) (plus : Bool) → IsNumeral 10 (drop (cond plus 1 0) (xs ++ c ∷ [])) → digit_value c < 10
numeral_end xs c false n = all_end xs c n.1
numeral_end [] c true n = absurd (omega (arith, n.0))
numeral_end (x ∷ xs) c true n = all_end xs c n.1

-- a decimal number doesn't end with a letter
no_letter : (text front : List ℕ) (c : ℕ) → text ≡ front ++ c ∷ [] → IsDecimal text → digit_value c < 10
no_letter text front c is decimal = numeral_end front c _ (subst IsDecimal is decimal)

same_letter : (text front : List ℕ) (c unit bytes : ℕ) → text ≡ front ++ c ∷ [] → IsMultiple text (c ∷ []) unit bytes
    → IsDecimal front × (bytes ≡ decimal_value front * unit)
same_letter text front c unit bytes cut (digits, is, decimal, value) =
    let same : digits ≡ front = append_cancel_right digits front (c ∷ []) (sym is ∙ cut) in
    (subst IsDecimal same decimal, value ∙ ap (λ ds. decimal_value ds * unit) same)

other_letter : (text front : List ℕ) (c d unit bytes : ℕ) → text ≡ front ++ c ∷ [] → IsMultiple text (d ∷ []) unit bytes → c ≡ d
other_letter text front c d unit bytes cut (digits, is, decimal, value) = last_same front digits c d (sym cut ∙ is)

-- what a text names is a multiple of the number before its letter
pub cut_names : (text front : List ℕ) (unit bytes : ℕ) → IsCut text front unit → NamesBytes text bytes → IsDecimal front × (bytes ≡ decimal_value front * unit)
cut_names text front unit bytes (inl plain) (inl one) = rw (plain.1, ← plain.0) (one.0, omega (arith, one.1))
cut_names text front unit bytes (inl plain) (inr (inl k)) = absurd (plain.2 k.0 k.1)
cut_names text front unit bytes (inl plain) (inr (inr (inl m))) = absurd (plain.3 m.0 m.1)
cut_names text front unit bytes (inl plain) (inr (inr (inr g))) = absurd (plain.4 g.0 g.1)
cut_names text front unit bytes (inr (inl k)) (inl one) = let low = no_letter text front 75 k.0 one.0 in absurd (omega (arith, low))
cut_names text front unit bytes (inr (inl k)) (inr (inl it)) = rw k.1 (same_letter text front 75 _ bytes k.0 it)
cut_names text front unit bytes (inr (inl k)) (inr (inr (inl it))) = let bad = other_letter text front 75 77 _ bytes k.0 it in absurd (omega (arith, bad))
cut_names text front unit bytes (inr (inl k)) (inr (inr (inr it))) = let bad = other_letter text front 75 71 _ bytes k.0 it in absurd (omega (arith, bad))
cut_names text front unit bytes (inr (inr (inl m))) (inl one) = let low = no_letter text front 77 m.0 one.0 in absurd (omega (arith, low))
cut_names text front unit bytes (inr (inr (inl m))) (inr (inl it)) = let bad = other_letter text front 77 75 _ bytes m.0 it in absurd (omega (arith, bad))
cut_names text front unit bytes (inr (inr (inl m))) (inr (inr (inl it))) = rw m.1 (same_letter text front 77 _ bytes m.0 it)
cut_names text front unit bytes (inr (inr (inl m))) (inr (inr (inr it))) = let bad = other_letter text front 77 71 _ bytes m.0 it in absurd (omega (arith, bad))
cut_names text front unit bytes (inr (inr (inr g))) (inl one) = let low = no_letter text front 71 g.0 one.0 in absurd (omega (arith, low))
cut_names text front unit bytes (inr (inr (inr g))) (inr (inl it)) = let bad = other_letter text front 71 75 _ bytes g.0 it in absurd (omega (arith, bad))
cut_names text front unit bytes (inr (inr (inr g))) (inr (inr (inl it))) = let bad = other_letter text front 71 77 _ bytes g.0 it in absurd (omega (arith, bad))
cut_names text front unit bytes (inr (inr (inr g))) (inr (inr (inr it))) = rw g.1 (same_letter text front 71 _ bytes g.0 it)

-- the multiple of the number before a text's letter is what the text names
names_cut : (text front : List ℕ) (unit : ℕ) → IsCut text front unit → IsDecimal front → NamesBytes text (decimal_value front * unit)
names_cut text front unit (inl plain) decimal = inl (rw (plain.0, plain.1) (decimal, omega arith))
names_cut text front unit (inr (inl k)) decimal = inr (inl (front, k.0, decimal, ap (λ n. decimal_value front * n) k.1))
names_cut text front unit (inr (inr (inl m))) decimal = inr (inr (inl (front, m.0, decimal, ap (λ n. decimal_value front * n) m.1)))
names_cut text front unit (inr (inr (inr g))) decimal = inr (inr (inr (front, g.0, decimal, ap (λ n. decimal_value front * n) g.1)))

unit_counts : (text front : List ℕ) (unit : ℕ) → IsCut text front unit → 0 < unit
unit_counts text front unit (inl plain) = omega (arith, plain.1)
unit_counts text front unit (inr (inl k)) = omega (arith, k.1)
unit_counts text front unit (inr (inr (inl m))) = omega (arith, m.1)
unit_counts text front unit (inr (inr (inr g))) = omega (arith, g.1)

-- the number before the letter wasn't read
pub too_many : {E : Type 0} (text front : List ℕ) (unit : ℕ) (read : Result ℕ E) (why : E) → IsCut text front unit → ParsesUnsigned 64 10 front read → read ≡ Err why
    → (bytes : ℕ) → NamesBytes text bytes → 2 ^ 64 ≤ bytes
too_many text front unit read why cut parsed is bytes names =
    let one = cut_names text front unit bytes cut names in
    let over : (decimal_value front < 2 ^ 64) → ⊥ = λ low. OkIff-at_err read _ _ why parsed is (one.0, low) in
    let large : 2 ^ 64 ≤ decimal_value front = grind (arith, over) in
    let more = le-mul_of_pos_right (decimal_value front) (unit_counts text front unit cut) in
    omega (arith, large, more, one.1)

-- the number before the letter was read, and multiplied
pub multiplied : (text front : List ℕ) (unit : ℕ) (result : Option ℕ) → IsCut text front unit → IsDecimal front
    → SomeIff result (decimal_value front * unit < 2 ^ 64) (decimal_value front * unit)
    → MatchOption result ((bytes : ℕ) → NamesBytes text bytes → 2 ^ 64 ≤ bytes) (NamesBytes text)
multiplied text front unit None cut decimal over =
    λ bytes names. let one = cut_names text front unit bytes cut names in
    let large : 2 ^ 64 ≤ decimal_value front * unit = grind (arith, over) in omega (arith, large, one.1)
multiplied text front unit (Some bytes) cut decimal made = subst (NamesBytes text) (sym made.1) (names_cut text front unit cut decimal)

-- a letter that couldn't be stripped isn't there
pub lacks : {R : Type 0} (P : R → Type 0) (c : ℕ) (text : List ℕ) (stripped : Option R) → MatchOption stripped ((front : List ℕ) → text ≢ front ++ (c ∷ [])) P → stripped ≡ None
    → LacksLetter text (c ∷ [])
lacks P c text None found is = found
lacks P c text (Some rest) found is = absurd cc

-- a text without a first bracket isn't in brackets
pub unopened : {R : Type 0} (P : R → Type 0) (text : List ℕ) (stripped : Option R) → MatchOption stripped ((rest : List ℕ) → text ≢ 91 ∷ rest) P → stripped ≡ None
    → (inside : List ℕ) → text ≢ 91 ∷ (inside ++ 93 ∷ [])
unopened P text None found is inside same = found (inside ++ 93 ∷ []) same
unopened P text (Some rest) found is inside same = absurd cc

-- what was stripped
pub at_some : {R : Type 0} (N : Type 0) (P : R → Type 0) (stripped : Option R) (rest : R) → MatchOption stripped N P → stripped ≡ Some rest → P rest
at_some N P None rest found is = absurd cc
at_some N P (Some it) rest found is = let same : it ≡ rest = cc in subst P same found

-- what stands between brackets
pub bracketed : {R : Type 0} (now : R → List ℕ) (text rest : List ℕ) (inside : Option R) → text ≡ 91 ∷ rest
    → MatchOption inside ((front : List ℕ) → rest ≢ front ++ (93 ∷ [])) (λ it. rest ≡ now it ++ (93 ∷ []))
    → MatchOption inside ((front : List ℕ) → text ≢ 91 ∷ (front ++ 93 ∷ [])) (λ it. text ≡ 91 ∷ (now it ++ 93 ∷ []))
bracketed now text rest None opened closed = λ front is. let same : rest ≡ front ++ 93 ∷ [] = cc in closed front same
bracketed now text rest (Some it) opened closed = opened ∙ ap (λ r. 91 ∷ r) closed
