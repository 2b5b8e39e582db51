-- Postings of a word: pairs of a page's number and a count.
use Rattle.std.specs.Prelude.{◌≡◌, ℕ, zero, suc, ◌+◌, ◌-◌, ◌*◌, ◌/◌, ◌^◌, ◌<◌, ◌≤◌, List, [], ◌∷◌, ◌++◌, length, replicate, slice_index, ◌==◌, if◌then◌else◌, false}
use Rattle.std.specs.List.{AllByRecursion, flat_map, zip}
use Rattle.gopher_bytes.specs.Parts.{AreEnds}
use Rattle.gopher_page.specs.Page.{PageData}
use Rattle.gopher_segment.specs.Segment.{meant_counts}
use Rattle.gopher_segment.specs.declared.postings.Postings.{Postings}

-- the count of a page, which may have several postings
abbrev pub count_in : ℕ → List (ℕ × ℕ) → ℕ
count_in page [] = 0
count_in page (posting ∷ postings) =
    (if posting.0 == page then posting.1 else 0) + count_in page postings

-- each posting is of one of `size` consecutive pages, the first of which has this number
abbrev pub AreWithin : ℕ → ℕ → List (ℕ × ℕ) → Type 0
AreWithin first size postings =
    AllByRecursion (λ posting. (first ≤ posting.0) × (posting.0 < first + size)) postings

-- the postings of a page with this count: each counts at most 255, and only the last can count less
unfoldable pub pieces : ℕ → ℕ → List (ℕ × ℕ)
pieces page count =
    replicate ((count - 1) / 255) (page, 255) ++ (page, count - 255 * ((count - 1) / 255)) ∷ []

-- the postings of a word with these counts in consecutive pages, the first of which has this number
abbrev pub run_of : ℕ → List ℕ → List (ℕ × ℕ)
run_of number [] = []
run_of number (zero ∷ counts) = run_of (suc number) counts
run_of number (suc count ∷ counts) = pieces number (suc count) ++ run_of (suc number) counts

-- the postings of several runs in sequence
abbrev pub one_run : List (List (ℕ × ℕ)) → List (ℕ × ℕ)
one_run runs = flat_map (λ run. run) runs

-- runs of postings, packed: the number of a page and a count for each posting, and the end of each
-- run; postings after the last end are of a run that isn't ended yet
pub record ArePackedRuns (pages counts ends : List ℕ) : Type 0 where
  pub same : length counts ≡ length pages
  pub chain : AreEnds 0 ends (length pages)

-- runs of postings, and the beginning of one that isn't ended yet
pub record RunsData : Type 0 where
  pub whole : List (List (ℕ × ℕ))
  pub begun : List (ℕ × ℕ)

-- each cell stays below 2^32 if the count of its page is added; the first cell is that of page
-- `first`
abbrev pub HaveRoom : ℕ → List ℕ → (ℕ → ℕ) → Type 0
HaveRoom first cells count =
    (k : ℕ) → k < length cells → slice_index cells k + count (first + k) < 2 ^ 32

-- the count of its page was added to each cell; the first cell is that of page `first`
abbrev pub AreRaised : ℕ → List ℕ → List ℕ → (ℕ → ℕ) → Type 0
AreRaised first old new count =
    (k : ℕ) → k < length old → slice_index new k ≡ slice_index old k + count (first + k)

-- the postings are those of a word in pages, the first of which has their number `first`
abbrev pub IsPostingListOf : List ℕ → List PageData → Postings → Type 0
IsPostingListOf word pages postings =
    zip postings.numbers.now postings.counts.now
    ≡ run_of postings.first (meant_counts false word pages)
