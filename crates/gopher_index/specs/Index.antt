-- The pages of an index, in parts.
use Rattle.std.specs.Prelude.{ℕ, ◌+◌, ◌≤◌, ◌≡◌, List, [], ◌∷◌, ◌++◌, length, take, Option, Result, IfSome, MatchResult}
use Rattle.std.specs.Arc.{arc_value}
use Rattle.std.specs.declared.sync.Arc.{Arc}
use Rattle.std.specs.Global.{Global}
use Rattle.gopher_page.specs.Page.{PageData}
use Rattle.gopher_segment.specs.Segment.{SegmentData, pages_of}
use Rattle.gopher_segment.specs.SegmentRows.{AreConsecutive}
use Rattle.gopher_segment.specs.declared.segment.Segment.{Segment}

-- consecutive parts whose first page has the number `first`, in an index of at most 65,536 pages
pub record IsIndexRun (first : ℕ) (parts : List SegmentData) : Type 0 where
  pub consecutive : AreConsecutive first parts
  pub bound : first + length (pages_of parts) ≤ 65536

-- the parts of an index of `count` pages
pub record IsIndex (parts : List SegmentData) (count : ℕ) : Type 0 where
  pub is_run : IsIndexRun 0 parts
  pub count_is : count ≡ length (pages_of parts)

-- a run of pages, and the number of the first
abbrev pub run_data : ℕ → List SegmentData → SegmentData
run_data first parts = record { first = first; pages = pages_of parts }

-- a run of an index; if it was merged, the segment has its pages
pub record IsDue (first : ℕ) (parts : List SegmentData) (merged : Option (Arc Segment Global))
    : Type 0 where
  pub is_run : IsIndexRun first parts
  pub merged_is : IfSome merged (λ segment. arc_value segment ≡ run_data first parts)

-- the pages of a run occur in sequence among these pages, the first at the index that is its number
pub record IsSliceOf (run : SegmentData) (pages : List PageData) : Type 0 where
  pub before : List PageData
  pub after : List PageData
  pub at : pages ≡ before ++ (run.pages ++ after)
  pub number : length before ≡ run.first

-- the parts before this index have `pages` pages
abbrev pub IsBorder : List SegmentData → ℕ → ℕ → Type 0
IsBorder parts pages at = (at ≤ length parts) × (length (pages_of (take at parts)) ≡ pages)

-- a page is appended; after an error the pages are what they were
abbrev pub AppendsPage : {T E : Type 0} → PageData → List PageData → List PageData → Result T E
    → Type 0
AppendsPage page old new result = MatchResult result (λ _. new ≡ old ++ page ∷ []) (λ _. new ≡ old)

-- the new parts are consecutive, and if the pages of a run are pages of the old parts, then both
-- have the same pages
pub record KeepsPages (run : SegmentData) (old new : List SegmentData) : Type 0 where
  pub consecutive : AreConsecutive 0 new
  pub pages : IsSliceOf run (pages_of old) → pages_of new ≡ pages_of old
