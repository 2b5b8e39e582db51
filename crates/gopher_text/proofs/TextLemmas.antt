-- The effect of one more line on a text; written lines are read back.
use Rattle.std.proofs.Common.{◌≡◌, ℕ, ◌-◌, Bool, true, false, eqb, cond, List, [], ◌∷◌, ◌++◌, length, get_or, take, map, refl, sym, ap, ◌∙◌, append_assoc, arith, length-append}
use Rattle.std.specs.Io.{StartsWith}
use Rattle.std.specs.List.{slice_split, flat_map, AllByRecursion}
use Rattle.std.specs.Str.Lines.{strip_carriage_return}
use Rattle.std.proofs.KnownBytes.{starts_with_rest}
use Rattle.std.proofs.lemmas.Bool.{or_from, or_parts}
use Rattle.std.proofs.lemmas.Bool.Decides.{nat_tests}
use Rattle.std.proofs.lemmas.List.{take_at}
use Rattle.std.proofs.lemmas.List.Concat.{flat_map-cons}
use Rattle.std.proofs.lemmas.List.Folds.{list_any-append}
use Rattle.std.proofs.lemmas.List.Splits.{slice_split-cons_yes, slice_split-cons_no}
use Rattle.std.proofs.Math.Seq.{get_or-append_seam}
use Rattle.gopher_bytes.specs.Lines.{any_last_line, is_last_line, lines_before_last, lines_of}
use Rattle.gopher_bytes.proofs.Splits.{any_last_line-line, lines_before_last-line, lines_of_cut}
use Rattle.gopher_text.specs.Line.{has_feed}
use Rattle.gopher_text.specs.Text.{begins_with_period, line_sent, line_read, text_line_bytes, text_bytes, text_lines, ReadsText}

-- bytes that begin with `front` and more begin with `front`
pub begins_with_less : (all front more : List ℕ) → StartsWith all (front ++ more) → StartsWith all front
begins_with_less all front more begins =
    ap (take (length front)) (starts_with_rest all (front ++ more) begins ∙ append_assoc front more _) ∙ take_at front _ (length front) refl

-- a text begins with its first line
pub text_bytes-line : (line : List ℕ) (lines : List (List ℕ)) → text_bytes (line ∷ lines) ≡ text_line_bytes line ++ text_bytes lines
text_bytes-line line lines =
    ap (λ l. l ++ 46 ∷ 13 ∷ 10 ∷ []) (flat_map-cons text_line_bytes line lines)
    ∙ append_assoc (text_line_bytes line) (flat_map text_line_bytes lines) (46 ∷ 13 ∷ 10 ∷ [])

-- ---- one line, read back

cut_at_feed : (front rest : List ℕ) → has_feed front ≡ false → slice_split (λ b. eqb b 10) (front ++ 10 ∷ rest) ≡ front ∷ slice_split (λ b. eqb b 10) rest
cut_at_feed [] rest unfed = slice_split-cons_yes (λ b. eqb b 10) 10 rest (grind (arith, nat_tests))
cut_at_feed (byte ∷ front) rest unfed =
    let both = or_parts _ _ unfed in
    slice_split-cons_no (λ b. eqb b 10) byte (front ++ 10 ∷ rest) both.0 ∙ rw (cut_at_feed front rest both.1) refl

strip_return : (line : List ℕ) → strip_carriage_return (line ++ 13 ∷ []) ≡ line
strip_return line =
    let size : length (line ++ 13 ∷ []) - 1 ≡ length line = omega (arith, length-append line (13 ∷ [])) in
    let last : get_or (line ++ 13 ∷ []) (length line) 0 ≡ 13 = get_or-append_seam line 13 [] 0 in
    rw (size, last) (take_at line (13 ∷ []) (length line) refl)

ended_line : (line rest : List ℕ) → has_feed line ≡ false → lines_of ((line ++ 13 ∷ 10 ∷ []) ++ rest) ≡ line ∷ lines_of rest
ended_line line rest unfed =
    let whole : (line ++ 13 ∷ 10 ∷ []) ++ rest ≡ (line ++ 13 ∷ []) ++ 10 ∷ rest =
    append_assoc line (13 ∷ 10 ∷ []) rest ∙ sym (append_assoc line (13 ∷ []) (10 ∷ rest)) in
    let none : has_feed (line ++ 13 ∷ []) ≡ false = list_any-append (λ byte. eqb byte 10) line (13 ∷ []) ∙ or_from _ _ unfed refl in
    ap lines_of whole
    ∙ lines_of_cut ((line ++ 13 ∷ []) ++ 10 ∷ rest) (line ++ 13 ∷ []) rest (cut_at_feed (line ++ 13 ∷ []) rest none)
    ∙ ap (λ (l : List ℕ). l ∷ lines_of rest) (strip_return line)

sent_unfed : (line : List ℕ) → has_feed line ≡ false → has_feed (line_sent line) ≡ false
sent_unfed line unfed = by (begins_with_period line)
  where
    by : (begins : Bool) → has_feed (cond begins (46 ∷ line) line) ≡ false
    by true = or_from (eqb 46 10) (has_feed line) refl unfed
    by false = unfed

-- a sent line isn't a single period, and is read as it was
sent_not_last : (line : List ℕ) → is_last_line (line_sent line) ≡ false
sent_not_last [] = refl
sent_not_last (byte ∷ line) = by (eqb byte 46) refl
  where
    by : (begins : Bool) → eqb byte 46 ≡ begins → is_last_line (cond begins (46 ∷ byte ∷ line) (byte ∷ line)) ≡ false
    by true e = refl
    by false e = rw e refl

sent_read : (line : List ℕ) → line_read (line_sent line) ≡ line
sent_read [] = refl
sent_read (byte ∷ line) = by (eqb byte 46) refl
  where
    by : (begins : Bool) → eqb byte 46 ≡ begins → line_read (cond begins (46 ∷ byte ∷ line) (byte ∷ line)) ≡ byte ∷ line
    by true e = rw e refl
    by false e = rw e refl

-- ---- whole texts

read_lines : (lines : List (List ℕ)) → AllByRecursion (λ line. has_feed line ≡ false) lines
    → (text_lines (text_bytes lines) ≡ lines) × (any_last_line (lines_of (text_bytes lines)) ≡ true)
read_lines [] unfed = (refl, refl)
read_lines (line ∷ lines) unfed =
    let rest = read_lines lines unfed.1 in
    let split : lines_of (text_bytes (line ∷ lines)) ≡ line_sent line ∷ lines_of (text_bytes lines) =
    ap lines_of (text_bytes-line line lines) ∙ ended_line (line_sent line) (text_bytes lines) (sent_unfed line unfed.0) in (
      ap (λ l. map line_read (lines_before_last l)) split
          ∙ ap (map line_read) (lines_before_last-line (line_sent line) (lines_of (text_bytes lines)) (sent_not_last line))
          ∙ rw (sent_read line, rest.0) refl,
      ap any_last_line split ∙ any_last_line-line (line_sent line) (lines_of (text_bytes lines)) (sent_not_last line) ∙ rest.1,
    )

-- the bytes of these lines are read back as the same lines, ended
pub read_back : (lines : List (List ℕ)) → AllByRecursion (λ line. has_feed line ≡ false) lines → ReadsText (text_bytes lines) lines true
read_back lines unfed = let both = read_lines lines unfed in record { all_lines = sym both.0; is_ended = sym both.1 }
