-- Rows: words, each with its postings.
use Rattle.std.specs.Prelude.{ℕ, ◌+◌, ◌≡◌, ◌<◌, ◌≤◌, Bool, true, false, List, [], ◌∷◌, ◌++◌, map, drop, Option, Some, None, length, slice_index_or, if◌then◌else◌}
use Rattle.std.specs.List.{AllByRecursion, flat_map}
use Rattle.std.specs.List.Sorted.{IsStrictlySortedBy}
use Rattle.std.specs.Ordering.{nat_cmp}
use Rattle.std.specs.Cmp.Lexicographic.{slice_cmp}
use Rattle.std.specs.declared.cmp.Ordering.TheVariants.{Less}
use Rattle.gopher_page.specs.Words.{same_word}
use Rattle.gopher_page.specs.Counts.{is_before, is_meant}
use Rattle.gopher_segment.specs.Postings.{pieces}

-- a word with its postings
abbrev pub WordRow : Type 0
WordRow = List ℕ × List (ℕ × ℕ)

abbrev pub words_of_rows : List WordRow → List (List ℕ)
words_of_rows rows = map (λ row. row.0) rows

abbrev pub runs_of_rows : List WordRow → List (List (ℕ × ℕ))
runs_of_rows rows = map (λ row. row.1) rows

-- the words are in the order of their bytes, each once
abbrev pub AreRowsInOrder : List WordRow → Type 0
AreRowsInOrder rows = IsStrictlySortedBy (slice_cmp nat_cmp) (words_of_rows rows)

-- the postings of the words that pass a test
abbrev pub postings_where : (List ℕ → Bool) → List WordRow → List (ℕ × ℕ)
postings_where test [] = []
postings_where test (row ∷ rows) =
    (if test row.0 then row.1 else []) ++ postings_where test rows

-- the postings of a word; none if no row has the word
abbrev pub postings_of : List ℕ → List WordRow → List (ℕ × ℕ)
postings_of word rows = postings_where (same_word word) rows

-- the postings of the sought word or, if it is a prefix, of all words that begin with it
abbrev pub postings_meant : Bool → List ℕ → List WordRow → List (ℕ × ℕ)
postings_meant is_prefix sought rows = postings_where (is_meant is_prefix sought) rows

-- the rows of one page
abbrev pub page_rows : ℕ → List (List ℕ × ℕ) → List WordRow
page_rows number counts = map (λ entry. (entry.0, pieces number entry.1)) counts

-- ---- merging tables

-- the word of the first row, if there is a row
abbrev pub first_word : List WordRow → Option (List ℕ)
first_word [] = None
first_word (row ∷ rows) = Some row.0

-- a cursor at a row of a table or past all rows, with the word of that row
pub record IsCursor (rows : List WordRow) (at : ℕ) (word : Option (List ℕ)) : Type 0 where
  pub within : at ≤ length rows
  pub word_is : word ≡ first_word (drop at rows)

abbrev pub first_run : List WordRow → List (ℕ × ℕ)
first_run [] = []
first_run (row ∷ rows) = row.1

-- the first row has this word
abbrev pub is_at : List ℕ → List WordRow → Bool
is_at word [] = false
is_at word (row ∷ rows) = same_word row.0 word

-- the rows without the first one if that has this word
abbrev pub passed : List ℕ → List WordRow → List WordRow
passed word [] = []
passed word (row ∷ rows) = if same_word row.0 word then rows else row ∷ rows

-- the postings of the first row if that has this word
abbrev pub taken : List ℕ → List WordRow → List (ℕ × ℕ)
taken word [] = []
taken word (row ∷ rows) = if same_word row.0 word then row.1 else []

-- the postings of a word in the first rows of tables
abbrev pub taken_of : List ℕ → List (List WordRow) → List (ℕ × ℕ)
taken_of word tables = flat_map (taken word) tables

-- none of the tables before an index begins with a word
abbrev pub LackBefore : List ℕ → ℕ → List (List WordRow) → Type 0
LackBefore word first tables = (k : ℕ) → k < first → is_at word (slice_index_or tables k []) ≡ false

-- there is a word, and it comes before the other, if there is another
abbrev pub is_lower : Option (List ℕ) → Option (List ℕ) → Bool
is_lower None low = false
is_lower (Some word) None = true
is_lower (Some word) (Some low) = is_before word low

-- no table before an index begins with a word that is lower than another, if there is another
abbrev pub NoneLower : Option (List ℕ) → ℕ → List (List WordRow) → Type 0
NoneLower low end tables =
    (k : ℕ) → k < end → is_lower (first_word (slice_index_or tables k [])) low ≡ false

-- the table at an index is the first that begins with a word, and no table begins with a lower one
pub record IsLowest (tables : List (List WordRow)) (at : ℕ) (word : List ℕ) : Type 0 where
  pub within : at < length tables
  pub here : first_word (slice_index_or tables at []) ≡ Some word
  pub lack : LackBefore word at tables
  pub none : NoneLower (Some word) (length tables) tables

abbrev pub AreAllInOrder : List (List WordRow) → Type 0
AreAllInOrder tables = AllByRecursion AreRowsInOrder tables

-- the rows have the postings of each word from all tables, in order
abbrev pub HavePostingsOf : List (List WordRow) → List WordRow → Type 0
HavePostingsOf tables rows =
    (word : List ℕ) → postings_of word rows ≡ flat_map (postings_of word) tables

-- the number of rows of all tables
abbrev pub rows_left : List (List WordRow) → ℕ
rows_left [] = 0
rows_left (rows ∷ tables) = length rows + rows_left tables

-- all words come before this one
abbrev pub AllBefore : List (List ℕ) → List ℕ → Type 0
AllBefore words word = AllByRecursion (λ earlier. slice_cmp nat_cmp earlier word ≡ Less) words

-- all words come before this one, if there is one
abbrev pub AllBeforeNext : List (List ℕ) → Option (List ℕ) → Type 0
AllBeforeNext words None = Unit {0}
AllBeforeNext words (Some word) = AllBefore words word

-- all words come before the first word of each table
abbrev pub ComeBefore : List (List ℕ) → List (List WordRow) → Type 0
ComeBefore words tables = AllByRecursion (λ rows. AllBeforeNext words (first_word rows)) tables

-- ---- joining rows

-- two lists of rows have equal postings of each word
abbrev pub TellAlike : List WordRow → List WordRow → Type 0
TellAlike rows others = (word : List ℕ) → postings_of word others ≡ postings_of word rows

-- the rows after neighbours with equal words are joined, beginning with this row
abbrev pub joined_from : WordRow → List WordRow → List WordRow
joined_from row [] = row ∷ []
joined_from row (next ∷ rows) =
    if same_word next.0 row.0 then joined_from (row.0, row.1 ++ next.1) rows
    else row ∷ joined_from next rows

abbrev pub joined_rows : List WordRow → List WordRow
joined_rows [] = []
joined_rows (row ∷ rows) = joined_from row rows

-- the rows from `start` up to, not including, `end` have one word, and together these postings
abbrev pub IsJoined : List WordRow → ℕ → ℕ → List (ℕ × ℕ) → Type 0
IsJoined rows start end postings =
    joined_rows (drop start rows)
    ≡ (slice_index_or (words_of_rows rows) start [], postings) ∷ joined_rows (drop end rows)
