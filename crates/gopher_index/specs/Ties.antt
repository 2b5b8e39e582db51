-- Ranking the pages of a part, and pages that tie with the last of the best.
use Rattle.std.specs.Prelude.{◌≡◌, ℕ, ◌<◌, Bool, true, ◌&&◌, nat_lt, List, Some, length, map, take, slice_get, slice_index, Result, OnOk}
use Rattle.std.specs.Arc.{arc_value}
use Rattle.gopher_page.specs.Page.{PageData}
use Rattle.gopher_segment.specs.Ranks.{AreRanks}
use Rattle.gopher_page.specs.Query.{TermData}
use Rattle.gopher_index.specs.Best.{BestData, TakesHit, TakesIn, hit_with, is_beyond}
use Rattle.gopher_index.specs.Plan.{AreCells, is_match}
use Rattle.gopher_index.specs.declared.ties.Ties.{Ties}

-- whether the ranks show that the page at an index can't get among the best with this score
abbrev pub is_covered : Ties → ℕ → ℕ → Bool
is_covered ties index score =
    nat_lt score ties.below
    && nat_lt (slice_index ties.ranks.now ties.tied) (slice_index ties.ranks.now index)

-- each page of which the ranks show this ranks after the 50th of the best
pub record AreTies (ties : Ties) (best : BestData) : Type 0 where
  pub ranks : AreRanks (map arc_value ties.pages.now) ties.ranks.now
  pub tied : 0 < length ties.pages.now → ties.tied < length ties.pages.now
  pub beyond : (index score : ℕ) (page : PageData)
      → slice_get (map arc_value ties.pages.now) index ≡ Some page
      → is_covered ties index score ≡ true → is_beyond (hit_with score page) best ≡ true

-- the best take in the page at an index of the segment with this score
abbrev pub TakesPageAt : {T E : Type 0} → Ties → ℕ → ℕ → BestData → BestData → Result T E → Type 0
TakesPageAt ties index score old new result =
    (page : PageData) → slice_get (map arc_value ties.pages.now) index ≡ Some page
    → OnOk result (TakesHit (hit_with score page) old new)

-- if the verdicts and scores are the cells of the pages for some terms, the pages are taken in,
-- unless it fails
abbrev pub TakesCells : {T E : Type 0} → List PageData → List ℕ → List ℕ → BestData → BestData
    → Result T E → Type 0
TakesCells pages verdicts scores old new result =
    (terms : List TermData) → AreCells terms pages (map is_match verdicts) scores
    → OnOk result (TakesIn terms pages old new)

-- if the verdicts and scores are the cells of the pages for some terms, and the pages before the
-- index `start` were taken in, then the pages before `end` are, unless it fails
abbrev pub TakesBlock : {T E : Type 0} → Ties → List ℕ → List ℕ → ℕ → ℕ → BestData → BestData
    → Result T E → Type 0
TakesBlock ties verdicts scores start end old new result =
    (terms : List TermData) (first : BestData)
    → AreCells terms (map arc_value ties.pages.now) (map is_match verdicts) scores
    → TakesIn terms (take start (map arc_value ties.pages.now)) first old
    → OnOk result (TakesIn terms (take end (map arc_value ties.pages.now)) first new)
