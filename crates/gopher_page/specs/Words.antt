-- The words of bytes, and the tokens of a query's text.
use Rattle.std.specs.Prelude.{◌≡◌, ℕ, Bool, false, ◌&&◌, ◌||◌, not, List, [], ◌∷◌, ◌++◌, length, map, filter, nat_eq, nat_lt, nat_le, ◌==◌}
use Rattle.std.specs.Borrow.{Bor}
use Rattle.std.specs.List.{flat_map, slice_split, zip}
use Rattle.std.specs.Cmp.Lexicographic.{pointwise}
use Rattle.gopher_bytes.specs.Case.{lower_case}
use Rattle.gopher_page.specs.declared.word.TheConstants.{MAX_WORD}

-- the lines as one text, each followed by an LF (10)
abbrev pub joined_lines : List (List ℕ) → List ℕ
joined_lines lines = flat_map (λ line. line ++ 10 ∷ []) lines

-- an ASCII letter, an ASCII digit, or a byte of 128 or more
abbrev pub is_word_byte : ℕ → Bool
is_word_byte byte =
    (nat_le 48 byte && nat_le byte 57) || (nat_le 65 byte && nat_le byte 90)
    || (nat_le 97 byte && nat_le byte 122) || nat_le 128 byte

-- any other byte: it separates words
abbrev pub is_gap : ℕ → Bool
is_gap byte = not (is_word_byte byte)

-- a run between two gaps, or a gap and an end, is a word if it has 1 to 40 bytes
abbrev pub is_word : List ℕ → Bool
is_word run = nat_lt 0 (length run) && nat_le (length run) MAX_WORD

-- the words of bytes in order, in lower case
unfoldable pub words_of : List ℕ → List (List ℕ)
words_of bytes = map (map lower_case) (filter is_word (slice_split is_gap bytes))

abbrev pub same_word : List ℕ → List ℕ → Bool
same_word = pointwise nat_eq

-- a word of a query's text, which matches all words that begin with it if it is a prefix
pub record Token : Type 0 where
  pub word : List ℕ
  pub is_prefix : Bool

-- the runs between gaps and at both ends, each with whether the gap directly after it is a `*` (42)
abbrev pub runs_of : List ℕ → List (List ℕ × Bool)
runs_of text =
    zip (slice_split is_gap text) (map (λ gap. gap == 42) (filter is_gap text) ++ false ∷ [])

abbrev pub token_of : List ℕ × Bool → Token
token_of run = record { word = map lower_case run.0; is_prefix = run.1 }

-- the runs of a text that are words, in order
unfoldable pub word_runs : List ℕ → List (List ℕ × Bool)
word_runs text = filter (λ run. is_word run.0) (runs_of text)

-- the words of bytes in order, with their letters unchanged
abbrev pub bare_words : List ℕ → List (List ℕ)
bare_words bytes = map (λ run. run.0) (word_runs bytes)

-- the tokens of a query's text in order: its words, each a prefix if a `*` directly follows it
abbrev pub tokens_of : List ℕ → List Token
tokens_of text = map token_of (word_runs text)

-- ---- cuts

-- bytes without a gap are one run
abbrev pub IsOneRun : List ℕ → Type 0
IsOneRun bytes = runs_of bytes ≡ (bytes, false) ∷ []

-- the bytes before the first gap, the gap, and the bytes after it
abbrev pub IsCutAtGap : List ℕ → Bor (List ℕ) × ℕ × Bor (List ℕ) → Type 0
IsCutAtGap bytes cut = runs_of bytes ≡ (cut.0.now, cut.1 == 42) ∷ runs_of cut.2.now

-- the first word of a text and whether a `*` directly follows it, and the text after it
abbrev pub IsFirstWord : List ℕ → Bor (List ℕ) × Bool × Bor (List ℕ) → Type 0
IsFirstWord text found = word_runs text ≡ (found.0.now, found.1) ∷ word_runs found.2.now
