-- The published version of a crew's catalogue, and its rule.
use Rattle.std.specs.Prelude.{ℕ, ◌≡◌, ◌⊎◌, Bool, true, false, List, [], ◌∷◌, ◌++◌, Result, MatchResult}
use Rattle.std.specs.Arc.{arc_value}
use Rattle.std.specs.List.{fold}
use Rattle.std.specs.declared.sync.Arc.{Arc}
use mathlib.Core.List.{IsPrefix}
use mathlib.Core.Option.{some}
use lib.ListN.{get_elem?}
use Rattle.logbook.specs.Pages.{Book}
use Rattle.gopher_catalogue.specs.declared.event.EventData.{EventData}
use Rattle.gopher_catalogue.specs.Legal.{IsLegal}
use Rattle.gopher_catalogue.specs.Pages.{pages_found}
use Rattle.gopher_page.specs.Page.{PageData}
use Rattle.gopher_crew.specs.History.{RecordPrefixData}
use Rattle.gopher_crew.specs.declared.publication.update.Change.{Change}
use Rattle.gopher_crew.specs.declared.publication.update.Change.TheVariants.{Nothing, Page, All}
use Rattle.gopher_crew.specs.declared.publication.update.Update.{Update}

-- pages, and a prefix of a history
pub record VersionData : Type 0 where
  pub pages : List PageData
  pub prefix : RecordPrefixData

abbrev pub version_data : List PageData → RecordPrefixData → VersionData
version_data pages prefix = record { pages = pages; prefix = prefix }

-- the pages after a change
abbrev pub pages_after : Change → List PageData → List PageData
pages_after Nothing pages = pages
pages_after (Page page) pages = pages ++ arc_value page ∷ []
pages_after (All index) pages = arc_value index

-- the shared pages after a change, if it succeeds; otherwise they stay
abbrev pub Applies : {T E Z : Type 0} → Change → Arc (List PageData) Z → Arc (List PageData) Z
    → Result T E → Type 0
Applies change old new result =
    MatchResult result
    (λ _. arc_value new ≡ pages_after change (arc_value old))
    (λ _. arc_value new ≡ arc_value old)

-- the version after an update
abbrev pub after_update : VersionData → Update → VersionData
after_update version update = version_data (pages_after update.change version.pages) update.prefix

-- the version after several updates
abbrev pub last_of : VersionData → List Update → VersionData
last_of before updates = fold after_update before updates

-- the version has the pages of a legal record, which is a prefix of this history
pub record IsVersion (history : Book) (version : VersionData) : Type 0 where
  pub history_is : version.prefix.history ≡ history
  pub pages_are : version.pages ≡ pages_found version.prefix.events
  pub legal : IsLegal version.prefix.events

-- the published version is one of this history, and its record begins with all that anyone has seen
pub record IsPublished (history : Book) (version : VersionData) (views : List (List EventData))
    : Type 0 where
  pub is_version : IsVersion history version
  pub begins : (seat : ℕ) (seen : List EventData) → get_elem? views seat ≡ some seen
      → IsPrefix seen version.prefix.events

-- what was seen was a prefix of the record of the version before; the record of the version after
-- is seen now
pub record Sees (history : Book) (seen : List EventData) (before after : VersionData)
    (now : List EventData) : Type 0 where
  pub began : IsPrefix seen before.prefix.events
  pub sees : now ≡ after.prefix.events
  pub is_version : IsVersion history after

-- the version is one of this history, and its record is the one that is seen
abbrev pub IsSeenVersion : Book → List EventData → VersionData → Type 0
IsSeenVersion history seen version = IsVersion history version × (version.prefix.events ≡ seen)

-- the version is one of this history, and its record begins with that of the version before
abbrev pub FollowsVersion : Book → VersionData → VersionData → Type 0
FollowsVersion history before after =
    IsVersion history after × IsPrefix before.prefix.events after.prefix.events

-- whether the updates that waited were applied and published
abbrev pub CatchesUp : Bool → VersionData → List Update → VersionData → List Update → Type 0
CatchesUp true shown updates shown' updates' = (shown' ≡ last_of shown updates) × (updates' ≡ [])
CatchesUp false shown updates shown' updates' = (shown' ≡ shown) × (updates' ≡ updates)

-- whether a version was published, with none that waited before; if not, it waits at most
abbrev pub Follows : Bool → VersionData → VersionData → VersionData → List Update → Type 0
Follows true version shown shown' updates' = (shown' ≡ version) × (updates' ≡ [])
Follows false version shown shown' updates' =
    (shown' ≡ shown) × ((updates' ≡ []) ⊎ (last_of shown' updates' ≡ version))

-- the published version is one of this history, the next one goes on from it, and what was entered
-- begins with the record of the next one
pub record IsPublication (history head : Book) (prefix : RecordPrefixData)
    (shown next : VersionData) : Type 0 where
  pub head_is : head ≡ history
  pub prefix_is : prefix.history ≡ history
  pub is_version : IsVersion history shown
  pub goes_on : FollowsVersion history shown next
  pub begins : IsPrefix next.prefix.events prefix.events
