-- The verdicts and scores of a part's pages by the first groups of a query's terms.
use Rattle.std.specs.Prelude.{◌≡◌, ℕ, ◌+◌, ◌*◌, ◌<◌, ◌≤◌, List, [], ◌∷◌, ◌++◌, length, max, nat_lt, take, slice_index_or, if◌then◌else◌, Result, MatchResult}
use Rattle.std.specs.List.{All, zip}
use Rattle.gopher_page.specs.Page.{PageData}
use Rattle.gopher_segment.specs.Postings.{count_in}
use Rattle.gopher_segment.specs.Segment.{SegmentData}
use Rattle.gopher_segment.specs.declared.postings.Postings.{Postings}
use Rattle.gopher_index.specs.ByPostings.{ArePostingsOf}
use Rattle.gopher_index.specs.Plan.{zipped, AreGroupCells, verdict_by, wanted_in}
use Rattle.gopher_index.specs.declared.joined.Joined.{Joined}
use Rattle.gopher_index.specs.declared.plan.Group.{Group}

-- the verdict of each page once a group with these counts is joined
abbrev pub raised_verdicts : Group → List ℕ → List ℕ → List ℕ
raised_verdicts group verdicts counts =
    zipped (λ verdict count. max verdict (verdict_by group count)) verdicts counts

-- postings as pairs of a page's number and a count
abbrev pub posted : Postings → List (ℕ × ℕ)
posted postings = zip postings.numbers.now postings.counts.now

-- how often the word occurs in the page at an index, by its postings
abbrev pub posted_count : Postings → ℕ → ℕ
posted_count postings index = count_in (postings.first + index) (posted postings)

-- the verdict of each page with a count is raised, and the others are what they were
abbrev pub Raises : ℕ → (ℕ → ℕ) → List ℕ → List ℕ → Type 0
Raises holds count_at old new =
    (k : ℕ) → k < length old → slice_index_or new k 0
    ≡ max (slice_index_or old k 0) (if nat_lt 0 (count_at k) then holds else 0)

-- the posting list of a group of `not` and one word
pub record IsUnwantedList (group : Group) (pages : List PageData) (postings : Postings)
    : Type 0 where
  pub wanted : group.wanted ≡ 0
  pub fails : group.fails ≡ 0
  pub run : ArePostingsOf group.term pages postings
  pub beside : length postings.counts.now ≡ length postings.numbers.now

-- if the cells were those of some groups, they are those of these groups and one more
abbrev pub AddsOne : Group → SegmentData → List ℕ → List ℕ → List ℕ → List ℕ → Type 0
AddsOne group segment old_verdicts old_scores new_verdicts new_scores =
    (before : List Group) → AreGroupCells before segment.pages old_verdicts old_scores
    → AreGroupCells (before ++ group ∷ []) segment.pages new_verdicts new_scores

-- the cells have the verdict and the score of each page by the groups that were joined; the scores
-- are small enough for the other groups
pub record AreJoined (groups : List Group) (pages : List PageData) (joined : Joined) : Type 0 where
  pub within : joined.groups ≤ length groups
  pub counts : length joined.counts.items ≡ length pages
  pub cells : AreGroupCells
      (take joined.groups groups) pages joined.verdicts.items joined.scores.items
  pub few : All
      (λ score. score ≤ 1048576 * wanted_in (take joined.groups groups)) joined.scores.items

-- if a group was joined, the cells are those of these pages
abbrev pub AreBegun : List Group → List PageData → Joined → Type 0
AreBegun groups pages joined = 0 < joined.groups → AreJoined groups pages joined

-- `end` groups are joined; after an error none is joined, and none was before
abbrev pub JoinsTo : {T E : Type 0} → ℕ → Joined → Joined → Result T E → Type 0
JoinsTo end old new result =
    MatchResult result (λ _. new.groups ≡ end) (λ _. (old.groups ≡ 0) × (new.groups ≡ 0))
