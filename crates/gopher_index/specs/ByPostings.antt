-- The postings of one term.
use Rattle.std.specs.Prelude.{◌≡◌, ◌⊎◌, ℕ, zero, suc, ◌+◌, ◌-◌, ◌<◌, Bool, false, ◌==◌, List, [], ◌∷◌, ◌++◌, Some, length, map, min, drop, slice_get, slice_index, Result, OnOk}
use Rattle.std.specs.Arc.{arc_value}
use Rattle.std.specs.List.{AllByRecursion, zip}
use Rattle.gopher_page.specs.Page.{PageData}
use Rattle.gopher_page.specs.Query.{TermData, count_of_term}
use Rattle.gopher_page.specs.declared.query.Operator.TheVariants.{And}
use Rattle.gopher_index.specs.Best.{BestData, TakesIn}
use Rattle.gopher_index.specs.Plan.{term_counts}
use Rattle.gopher_segment.specs.Postings.{run_of}
use Rattle.gopher_segment.specs.Segment.{SegmentData}
use Rattle.gopher_segment.specs.declared.postings.Postings.{Postings}
use Rattle.gopher_index.specs.declared.ties.Ties.{Ties}

-- whether a posting is of the same page as the one before it
abbrev pub is_again : List ℕ → ℕ → Bool
is_again numbers zero = false
is_again numbers (suc index) = slice_index numbers index == slice_index numbers (suc index)

-- the first of a page's postings has this count
abbrev pub IsFirstCount : TermData → PageData → ℕ → Type 0
IsFirstCount term page count = count ≡ min (count_of_term page.counts term) 255

-- if `first` is the count of a page's first posting, `whole` is the page's count
abbrev pub IsWholeCount : TermData → PageData → ℕ → ℕ → Type 0
IsWholeCount term page first whole =
    IsFirstCount term page first → whole ≡ count_of_term page.counts term

-- if this is the count of the first posting of the page at an index, the page is taken in,
-- unless it fails
abbrev pub TakesPosting : {T E : Type 0} → Ties → ℕ → TermData → ℕ → BestData → BestData
    → Result T E → Type 0
TakesPosting ties index term count old new result =
    (page : PageData) → slice_get (map arc_value ties.pages.now) index ≡ Some page
    → 0 < count → IsFirstCount term page count
    → OnOk result (TakesIn (term ∷ []) (page ∷ []) old new)

-- a walk through the postings of a term has reached an index: the pages passed were inserted, and
-- the rest of the last one's postings comes before those of the pages ahead
pub record Walk (term : TermData) (first : ℕ) (pages : List PageData) (numbers counts : List ℕ)
    (old now : BestData) (index : ℕ) : Type 0 where
  pub passed : List PageData
  pub ahead : List PageData
  pub left : List (ℕ × ℕ)
  pub whole : pages ≡ passed ++ ahead
  pub rest : drop index (zip numbers counts)
      ≡ left ++ run_of (first + length passed) (term_counts term ahead)
  pub same : AllByRecursion (λ posting. suc posting.0 ≡ first + length passed) left
  pub behind : ((index ≡ 0) × (left ≡ []))
      ⊎ ((0 < index) × (suc (slice_index numbers (index - 1)) ≡ first + length passed))
  pub taken : TakesIn (term ∷ []) passed old now

-- a walk that has reached the index `start` reaches `end`, unless it fails
abbrev pub WalksBetween : {T E : Type 0} → TermData → Ties → Postings → ℕ → ℕ → BestData → BestData
    → Result T E → Type 0
WalksBetween term ties postings start end old new result =
    let pages : List PageData = map arc_value ties.pages.now in
    let numbers : List ℕ = postings.numbers.now in
    let counts : List ℕ = postings.counts.now in
    (first : BestData) → Walk term postings.first pages numbers counts first old start
    → OnOk result (Walk term postings.first pages numbers counts first new end)

-- the postings of a term in pages
abbrev pub ArePostingsOf : TermData → List PageData → Postings → Type 0
ArePostingsOf term pages postings =
    zip postings.numbers.now postings.counts.now ≡ run_of postings.first (term_counts term pages)

-- these are the postings of a query's only term, in a segment
pub record IsListOf (terms : List TermData) (segment : SegmentData) (postings : Postings)
    : Type 0 where
  pub term : TermData
  pub alone : terms ≡ term ∷ []
  pub and : term.operator ≡ And
  pub run : ArePostingsOf term segment.pages postings
  pub beside : length postings.counts.now ≡ length postings.numbers.now
