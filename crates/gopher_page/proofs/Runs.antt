-- The runs of a text one by one: the bytes before its first gap, and then the runs after the gap.
use Rattle.std.proofs.Common.{◌≡◌, ℕ, zero, suc, ◌+◌, ◌-◌, ◌<◌, Bool, true, false, cond, eqb, ltb, List, [], ◌∷◌, ◌++◌, length, map, filter, take, drop, get_or, None, Some, refl, sym, ap, ◌∙◌, arith}
use Rattle.std.proofs.lemmas.Bool.{ltb-false}
use Rattle.std.proofs.lemmas.List.{take_rest}
use Rattle.std.proofs.lemmas.List.Quantifiers.{position-Some}
use Rattle.std.proofs.lemmas.List.Sums.{fails_before_first}
use Rattle.std.specs.List.{slice_split, onto_first, zip, position, position_or_len}
use Rattle.gopher_bytes.proofs.Splits.{some_part}
use Rattle.gopher_page.specs.Words.{is_gap, runs_of}

some_mark : (gaps : List ℕ) → (first : Bool) × (more : List Bool) × (map (λ gap. eqb gap 42) gaps ++ false ∷ [] ≡ first ∷ more)
some_mark [] = (false, [], refl)
some_mark (gap ∷ gaps) = (eqb gap 42, map (λ g. eqb g 42) gaps ++ false ∷ [], refl)

-- the runs of a text with one more byte at the front, which is a gap or isn't
one_more : (byte : ℕ) (bytes : List ℕ) (t : Bool) → is_gap byte ≡ t
    → runs_of (byte ∷ bytes) ≡ zip (cond t ([] ∷ slice_split is_gap bytes) (onto_first byte (slice_split is_gap bytes))) (map (λ gap. eqb gap 42) (cond t (byte ∷ filter is_gap bytes) (filter is_gap bytes)) ++ false ∷ [])
one_more byte bytes t e =
    ap (λ b. zip (cond b ([] ∷ slice_split is_gap bytes) (onto_first byte (slice_split is_gap bytes))) (map (λ gap. eqb gap 42) (cond b (byte ∷ filter is_gap bytes) (filter is_gap bytes)) ++ false ∷ [])) e

-- the runs with a byte added to the front of the first
abbrev onto_run : ℕ → List (List ℕ × Bool) → List (List ℕ × Bool)
onto_run byte [] = []
onto_run byte (run ∷ runs) = (byte ∷ run.0, run.1) ∷ runs

zip-onto_first : (byte : ℕ) (parts : List (List ℕ)) (gaps : List Bool) (first : List ℕ) (rest : List (List ℕ)) (sign : Bool) (signs : List Bool)
    → parts ≡ first ∷ rest → gaps ≡ sign ∷ signs → zip (onto_first byte parts) gaps ≡ onto_run byte (zip parts gaps)
zip-onto_first byte parts gaps first rest sign signs p g = rw (p, g)

-- a gap at the front ends an empty run
runs_of-gap : (byte : ℕ) (bytes : List ℕ) → is_gap byte ≡ true → runs_of (byte ∷ bytes) ≡ ([], eqb byte 42) ∷ runs_of bytes
runs_of-gap byte bytes e = one_more byte bytes true e

-- any other byte at the front joins the first run
runs_of-word_byte : (byte : ℕ) (bytes run : List ℕ) (mark : Bool) (more : List (List ℕ × Bool)) → is_gap byte ≡ false → runs_of bytes ≡ (run, mark) ∷ more → runs_of (byte ∷ bytes) ≡ (byte ∷ run, mark) ∷ more
runs_of-word_byte byte bytes run mark more e first =
    let part = some_part is_gap bytes in
    let sign = some_mark (filter is_gap bytes) in
    one_more byte bytes false e ∙ zip-onto_first byte _ _ part.0 part.1 sign.0 sign.1 part.2 sign.2 ∙ ap (onto_run byte) first

-- bytes without a gap are one run
pub runs_of_whole : (bytes : List ℕ) → ((k : ℕ) → k < length bytes → is_gap (get_or bytes k 0) ≡ false) → runs_of bytes ≡ (bytes, false) ∷ []
runs_of_whole [] none = refl
runs_of_whole (byte ∷ bytes) none =
    runs_of-word_byte byte bytes bytes false [] (none 0 (omega arith)) (runs_of_whole bytes (λ k below. none (suc k) (omega arith)))

-- bytes are cut at their first gap
pub runs_of_cut : (bytes : List ℕ) (end : ℕ) → end < length bytes → is_gap (get_or bytes end 0) ≡ true → ((k : ℕ) → k < end → is_gap (get_or bytes k 0) ≡ false)
    → runs_of bytes ≡ (take end bytes, eqb (get_or bytes end 0) 42) ∷ runs_of (drop (suc end) bytes)
runs_of_cut [] end within here none = absurd (omega arith)
runs_of_cut (byte ∷ bytes) zero within here none = runs_of-gap byte bytes here
runs_of_cut (byte ∷ bytes) (suc end) within here none =
    runs_of-word_byte byte bytes (take end bytes) _ _ (none 0 (omega arith)) (runs_of_cut bytes end (omega arith) here (λ k below. none (suc k) (omega arith)))

-- if a search finds no gap, no byte is one
pub no_gap : (bytes : List ℕ) → position is_gap bytes ≡ None → (k : ℕ) → k < length bytes → is_gap (get_or bytes k 0) ≡ false
no_gap bytes e k below = by (ltb (position_or_len is_gap bytes) (length bytes)) refl
  where
    by : (t : Bool) → ltb (position_or_len is_gap bytes) (length bytes) ≡ t → is_gap (get_or bytes k 0) ≡ false
    by true found =
        let some : Some (position_or_len is_gap bytes) ≡ None = sym (ap (λ b. cond b (Some (position_or_len is_gap bytes)) None) found) ∙ e in
        cc
    by false past = fails_before_first is_gap bytes k 0 (omega (arith, ltb-false _ _ past))

-- bytes are cut at their first gap, with the slices of the code
pub runs_of_parts : (bytes : List ℕ) (end : ℕ) → position is_gap bytes ≡ Some end
    → runs_of bytes ≡ (take end bytes, eqb (get_or bytes end 0) 42) ∷ runs_of (take (length bytes - (end + 1)) (drop (end + 1) bytes))
runs_of_parts bytes end e =
    let found = position-Some is_gap bytes end 0 e in
    let next : suc end ≡ end + 1 = omega arith in
    runs_of_cut bytes end found.0 found.1 found.2
    ∙ ap (λ rest. (take end bytes, eqb (get_or bytes end 0) 42) ∷ runs_of rest) (ap (λ n. drop n bytes) next ∙ sym (take_rest bytes (end + 1)))
