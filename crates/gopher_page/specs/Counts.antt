-- The numbers of occurrences of words in a page.
use Rattle.std.specs.Prelude.{◌≡◌, ℕ, ◌+◌, ◌-◌, ◌<◌, ◌≤◌, Bool, true, false, List, [], ◌∷◌, length, map, drop, nat_eq, slice_index_or, count_by, if◌then◌else◌}
use Rattle.std.specs.List.{fold, sum_by, starts_with}
use Rattle.std.specs.List.Sorted.{IsStrictlySortedBy}
use Rattle.std.specs.Ordering.{nat_cmp, is_lt}
use Rattle.std.specs.BTreeSet.{insert_key}
use Rattle.std.specs.Cmp.Lexicographic.{slice_cmp}
use Rattle.gopher_page.specs.Words.{same_word}

-- the distinct words in byte order
abbrev pub sorted_words : List (List ℕ) → List (List ℕ)
sorted_words words = fold (insert_key (slice_cmp nat_cmp)) [] words

-- the distinct words in byte order, each with its number of occurrences
unfoldable pub counts_of : List (List ℕ) → List (List ℕ × ℕ)
counts_of words = map (λ word. (word, count_by (same_word word) words)) (sorted_words words)

-- run lengths after `count` more of a word in front
abbrev pub joined_run : List ℕ → ℕ → List (List ℕ × ℕ) → List (List ℕ × ℕ)
joined_run word count [] = (word, count) ∷ []
joined_run word count (run ∷ runs) =
    if same_word word run.0 then (word, count + run.1) ∷ runs else (word, count) ∷ run ∷ runs

-- the lengths of the runs of equal words
abbrev pub run_lengths : List (List ℕ) → List (List ℕ × ℕ)
run_lengths [] = []
run_lengths (word ∷ words) = joined_run word 1 (run_lengths words)

-- the words from `start` up to, not including, `end` are one run of equal words
abbrev pub IsWordRun : List (List ℕ) → ℕ → ℕ → Type 0
IsWordRun words start end =
    run_lengths (drop start words)
    ≡ (slice_index_or words start [], end - start) ∷ run_lengths (drop end words)

-- the word equals the sought one or, if that is a prefix, begins with it
abbrev pub is_meant : Bool → List ℕ → List ℕ → Bool
is_meant is_prefix sought word =
    if is_prefix then starts_with nat_eq word sought else same_word sought word

-- the number of occurrences of all words that pass a test
abbrev pub count_where : (List ℕ → Bool) → List (List ℕ × ℕ) → ℕ
count_where test counts = sum_by (λ entry. if test entry.0 then entry.1 else 0) counts

-- the number of occurrences of the sought word, or of all words that begin with it
unfoldable pub count_meant : Bool → List ℕ → List (List ℕ × ℕ) → ℕ
count_meant is_prefix sought counts = count_where (is_meant is_prefix sought) counts

-- one word comes before another in byte order
abbrev pub is_before : List ℕ → List ℕ → Bool
is_before a b = is_lt (slice_cmp nat_cmp a b)

-- distinct words in byte order
abbrev pub AreInOrder : List (List ℕ) → Type 0
AreInOrder words = IsStrictlySortedBy (slice_cmp nat_cmp) words

-- the word at an index, or no bytes past the end
abbrev pub word_at : List (List ℕ) → ℕ → List ℕ
word_at words index = slice_index_or words index []

-- the last word from `start` up to, not including, `end` passes a test, if there is one
abbrev pub LastPasses : (List ℕ → Bool) → List (List ℕ) → ℕ → ℕ → Type 0
LastPasses test words start end = start < end → test (word_at words (end - 1)) ≡ true

-- the word at this index fails a test, if there is one
abbrev pub FailsAt : (List ℕ → Bool) → List (List ℕ) → ℕ → Type 0
FailsAt test words index = index < length words → test (word_at words index) ≡ false

-- exactly the words from `start` up to, not including, `end` are meant
pub record AreMeantWords (words : List (List ℕ)) (is_prefix : Bool) (sought : List ℕ)
    (start end : ℕ) : Type 0 where
  pub forward : start ≤ end
  pub within : end ≤ length words
  pub before : (k : ℕ) → k < start → is_meant is_prefix sought (word_at words k) ≡ false
  pub meant :
      (k : ℕ) → start ≤ k → k < end → is_meant is_prefix sought (word_at words k) ≡ true
  pub others :
      (k : ℕ) → end ≤ k → k < length words → is_meant is_prefix sought (word_at words k) ≡ false
