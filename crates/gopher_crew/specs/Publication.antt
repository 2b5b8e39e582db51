-- A record and what is published of it: the version of a writer, and the updates that wait.
use Rattle.std.specs.Prelude.{ℕ, ◌≡◌, ◌+◌, ◌-◌, ◌<◌, ◌⊎◌, Bool, true, false, List, [], ◌++◌, drop, length, replicate, Option, Some, None}
use Rattle.left_right.specs.declared.Absorb.{Ghosts}
use Rattle.left_right.specs.declared.writer.Writer.{Writer}
use Rattle.logbook.specs.Pages.{Book}
use Rattle.gopher_catalogue.specs.declared.event.EventData.{EventData}
use Rattle.gopher_page.specs.Page.{PageData}
use Rattle.gopher_crew.specs.declared.publication.update.Update.{Update}
use Rattle.gopher_crew.specs.History.{RecordPrefixData}
use Rattle.gopher_crew.specs.Version.{VersionData, IsSeenVersion, FollowsVersion, CatchesUp, Follows, version_data, last_of}
use Rattle.gopher_catalogue.specs.Legal.{IsLegal}
use Rattle.gopher_crew.specs.Admitted.{EventRule, AllAdmitted}
use Rattle.gopher_text.specs.Watched.{CountsFailure}
use Rattle.gopher_crew.specs.declared.publication.Published.{Published}

-- a record, who made each of its events, the prefix of it that is published, and how many
-- publications failed, counted up to 2^64 - 1
pub record PublicationData : Type 0 where
  pub events : List EventData
  pub makers : List ℕ
  pub published : List EventData
  pub failed : ℕ

-- the events that were added were all made by one share
abbrev pub HasMade : ℕ → PublicationData → PublicationData → Type 0
HasMade maker old new =
    new.makers ≡ old.makers ++ replicate (length new.events - length old.events) maker

-- the whole record is published, unless a publication failed
abbrev pub IsShown : PublicationData → Type 0
IsShown it = (it.published ≡ it.events) ⊎ (0 < it.failed)

-- the failed publications before and after one: one more if it failed
abbrev pub CountsPublication : Bool → ℕ → ℕ → Type 0
CountsPublication true before after = after ≡ before
CountsPublication false before after = CountsFailure before after

-- the failed publications before and after a call: one more if it returns no note, and at most one
-- more if it returns one
abbrev pub CountsMissed : Option (List EventData) → ℕ → ℕ → Type 0
CountsMissed (Some note) before after = (after ≡ before) ⊎ CountsFailure before after
CountsMissed None before after = CountsFailure before after

-- how much of the record is published, and how many publications failed
abbrev pub published_of : PublicationData → Published
published_of it = record {
  events = length it.events;
  published = length it.published;
  failed = it.failed;
}

-- how much of a legal record is published: all of it, unless a publication failed
pub record IsPublishedOf (it : Published) (record_ : List EventData) : Type 0 where
  pub events : it.events ≡ length record_
  pub whole : (it.published ≡ it.events) ⊎ (0 < it.failed)
  pub legal : IsLegal record_

-- a legal record of admitted outcomes, which was entered, each event with its maker, and the count
-- of its events after the first. All of it is published, unless a publication failed
pub record KeepsRecord (admits : EventRule) (record_ : List EventData)
    (publication : PublicationData) (count : ℕ) : Type 0 where
  pub legal : IsLegal record_
  pub admitted : AllAdmitted admits record_
  pub entered : publication.events ≡ record_
  pub made : length publication.makers ≡ length record_
  pub counted : length record_ ≡ count + 1
  pub shown : IsShown publication

-- the version of these pages and this record is one of this history, and its record begins with
-- that of the version before
abbrev pub PagesFollow : Book → VersionData → List PageData → RecordPrefixData → Type 0
PagesFollow history before pages prefix = FollowsVersion history before (version_data pages prefix)

module _ {V P A S : Type 0} {g : Ghosts VersionData Update S} where
  -- the updates that wait: they are in the log, but not in the published version
  abbrev pub waiting_updates : Writer VersionData Update V P A S g → List Update
  waiting_updates writer = drop writer.behind writer.log.items

  -- the published version is of this history and this record, and no update waits
  abbrev pub ShowsRecord : Book → List EventData → Writer VersionData Update V P A S g → Type 0
  ShowsRecord history record_ writer =
      IsSeenVersion history record_ writer.desk.shown.value × (waiting_updates writer ≡ [])

  -- the version that the waiting updates make
  abbrev pub next_version : Writer VersionData Update V P A S g → VersionData
  next_version writer = last_of writer.desk.shown.value (waiting_updates writer)

  -- the version that the waiting updates make is one of this history, and its record begins with
  -- that of the published version
  abbrev pub NextFollows : Book → Writer VersionData Update V P A S g → Type 0
  NextFollows history writer = FollowsVersion history writer.desk.shown.value (next_version writer)

  -- whether the updates that waited were applied and published
  abbrev pub WriterCatchesUp : Bool → Writer VersionData Update V P A S g
      → Writer VersionData Update V P A S g → Type 0
  WriterCatchesUp done old new =
      CatchesUp done old.desk.shown.value (waiting_updates old) new.desk.shown.value
      (waiting_updates new)

  -- whether this version was published, with none that waited before; if not, it waits at most
  abbrev pub WriterFollows : Bool → VersionData → Writer VersionData Update V P A S g
      → Writer VersionData Update V P A S g → Type 0
  WriterFollows done version old new =
      Follows done version old.desk.shown.value new.desk.shown.value (waiting_updates new)
