-- The words of lines are the words of the joined lines in lower case; their number and their bytes.
use Rattle.std.proofs.Common.{◌≡◌, ℕ, ◌+◌, ◌<◌, ◌≤◌, Bool, true, false, cond, ◌&&◌, leb, ltb, List, [], ◌∷◌, ◌++◌, length, map, filter, sum_by, refl, sym, ap, ◌∙◌, append_assoc, arith}
use Rattle.std.proofs.lemmas.Bool.{both_ways}
use Rattle.std.proofs.lemmas.Bool.Decides.{nat_tests}
use Rattle.std.proofs.lemmas.List.{length-append, length-map, map-append}
use Rattle.std.proofs.lemmas.List.Elements.{filter-append}
use Rattle.std.proofs.lemmas.List.Sums.{sum_by-cons}
use Rattle.std.specs.List.{slice_split, onto_first, flat_map}
use Rattle.gopher_bytes.proofs.Splits.{some_part}
use Rattle.gopher_bytes.specs.Case.{lower_case}
use Rattle.gopher_page.specs.Words.{is_gap, is_word, bare_words, words_of}
use Rattle.gopher_page.proofs.Tokens.{bare_words-parts}
use Rattle.gopher_page.proofs.Short.{split_size, filter_count}

-- ---- lower case

lower_gap : (byte : ℕ) → is_gap (lower_case byte) ≡ is_gap byte
lower_gap byte = by (leb 65 byte) (leb byte 90) refl refl
  where
    P : Bool → Type 0
    P t = is_gap (cond t (byte + 32) byte) ≡ is_gap byte

    by : (a b : Bool) → leb 65 byte ≡ a → leb byte 90 ≡ b → P (a && b)
    by true true e f = grind (arith, nat_tests)
    by true false e f = refl
    by false b e f = refl

lower_onto : (byte : ℕ) (parts : List (List ℕ)) → onto_first (lower_case byte) (map (map lower_case) parts) ≡ map (map lower_case) (onto_first byte parts)
lower_onto byte [] = refl
lower_onto byte (part ∷ parts) = refl

split_lower : (bytes : List ℕ) → slice_split is_gap (map lower_case bytes) ≡ map (map lower_case) (slice_split is_gap bytes)
split_lower [] = refl
split_lower (byte ∷ bytes) =
    (λ i. cond (lower_gap byte i) ([] ∷ split_lower bytes i) (onto_first (lower_case byte) (split_lower bytes i))) ∙ by (is_gap byte)
  where
    by : (t : Bool)
        → cond t ([] ∷ map (map lower_case) (slice_split is_gap bytes)) (onto_first (lower_case byte) (map (map lower_case) (slice_split is_gap bytes)))
        ≡ map (map lower_case) (cond t ([] ∷ slice_split is_gap bytes) (onto_first byte (slice_split is_gap bytes)))
    by true = refl
    by false = lower_onto byte (slice_split is_gap bytes)

is_word-lower : (part : List ℕ) → is_word (map lower_case part) ≡ is_word part
is_word-lower part = ap (λ n. ltb 0 n && leb n 40) (length-map part lower_case)

filter_lower : (parts : List (List ℕ)) → filter is_word (map (map lower_case) parts) ≡ map (map lower_case) (filter is_word parts)
filter_lower [] = refl
filter_lower (part ∷ parts) =
    (λ i. cond (is_word-lower part i) (map lower_case part ∷ filter_lower parts i) (filter_lower parts i)) ∙ by (is_word part)
  where
    by : (t : Bool) → cond t (map lower_case part ∷ map (map lower_case) (filter is_word parts)) (map (map lower_case) (filter is_word parts)) ≡ map (map lower_case) (cond t (part ∷ filter is_word parts) (filter is_word parts))
    by true = refl
    by false = refl

pub bare_words-lower : (bytes : List ℕ) → bare_words (map lower_case bytes) ≡ words_of bytes
unfolding words_of
bare_words-lower bytes = bare_words-parts (map lower_case bytes) ∙ ap (filter is_word) (split_lower bytes) ∙ filter_lower (slice_split is_gap bytes)

-- ---- lines

onto_append : (byte : ℕ) (parts more : List (List ℕ)) (first : List ℕ) (others : List (List ℕ)) → parts ≡ first ∷ others → onto_first byte (parts ++ more) ≡ onto_first byte parts ++ more
onto_append byte parts more first others is = ap (λ l. onto_first byte (l ++ more)) is ∙ sym (ap (λ l. onto_first byte l ++ more) is)

split_feed : (line rest : List ℕ) → slice_split is_gap (line ++ 10 ∷ rest) ≡ slice_split is_gap line ++ slice_split is_gap rest
split_feed [] rest = refl
split_feed (byte ∷ line) rest = ap (λ l. cond (is_gap byte) ([] ∷ l) (onto_first byte l)) (split_feed line rest) ∙ by (is_gap byte)
  where
    by : (t : Bool) → cond t ([] ∷ (slice_split is_gap line ++ slice_split is_gap rest)) (onto_first byte (slice_split is_gap line ++ slice_split is_gap rest))
        ≡ cond t ([] ∷ slice_split is_gap line) (onto_first byte (slice_split is_gap line)) ++ slice_split is_gap rest
    by true = refl
    by false =
        let part = some_part is_gap line in
        onto_append byte (slice_split is_gap line) (slice_split is_gap rest) part.0 part.1 part.2

words_of-feed : (line rest : List ℕ) → words_of (line ++ 10 ∷ rest) ≡ words_of line ++ words_of rest
unfolding words_of
words_of-feed line rest =
    ap (λ parts. map (map lower_case) (filter is_word parts)) (split_feed line rest)
    ∙ ap (map (map lower_case)) (filter-append is_word (slice_split is_gap line) (slice_split is_gap rest))
    ∙ map-append (map lower_case) (filter is_word (slice_split is_gap line)) (filter is_word (slice_split is_gap rest))

words_of-empty : words_of [] ≡ []
unfolding words_of
words_of-empty = refl

words_of-lines : (lines : List (List ℕ)) → words_of (flat_map (λ line. line ++ 10 ∷ []) lines) ≡ flat_map words_of lines
words_of-lines [] = words_of-empty
words_of-lines (line ∷ lines) =
    ap words_of (append_assoc line (10 ∷ []) (flat_map (λ l. l ++ 10 ∷ []) lines))
    ∙ words_of-feed line (flat_map (λ l. l ++ 10 ∷ []) lines) ∙ ap (λ l. words_of line ++ l) (words_of-lines lines)

-- the words of lines are the words of the joined lines in lower case
pub words_of_lines : (lines : List (List ℕ)) → bare_words (map lower_case (flat_map (λ line. line ++ 10 ∷ []) lines)) ≡ flat_map words_of lines
words_of_lines lines = bare_words-lower (flat_map (λ line. line ++ 10 ∷ []) lines) ∙ words_of-lines lines

-- ---- sizes

-- each word has at least one byte
some_byte : (part : List ℕ) → is_word part ≡ true → 0 < length part
some_byte [] none = absurd (both_ways false refl none)
some_byte (byte ∷ part) word = omega arith

words_count : (bytes : List ℕ) → length (words_of bytes) ≤ length bytes
unfolding words_of
words_count bytes =
    omega (arith, length-map (filter is_word (slice_split is_gap bytes)) (map lower_case), filter_count is_word some_byte (slice_split is_gap bytes), split_size is_gap bytes)

pub lines_words_count : (lines : List (List ℕ)) → length (flat_map words_of lines) ≤ sum_by length lines
lines_words_count [] = omega arith
lines_words_count (line ∷ lines) =
    omega (arith, words_count line, lines_words_count lines, length-append (words_of line) (flat_map words_of lines), sum_by-cons (length {A = ℕ}) line lines)
