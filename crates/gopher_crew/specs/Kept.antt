-- What the calls of a desk return, and of which records their notes are.
use Rattle.std.specs.Prelude.{ℕ, ◌≡◌, ◌≢◌, List, [], ◌∷◌, ◌++◌, map, Option, None, Some, true, false, length, slice_get}
use mathlib.Core.List.{IsPrefix}
use Rattle.gopher_page.specs.Page.{PageData}
use Rattle.gopher_catalogue.specs.declared.event.EventData.{EventData}
use Rattle.gopher_catalogue.specs.declared.event.EventData.TheVariants.{Opened, Found, Failed}
use Rattle.gopher_catalogue.specs.declared.event.Event.{Event}
use Rattle.gopher_catalogue.specs.declared.event.Why.{Why}
use Rattle.gopher_catalogue.specs.declared.fault.FoundFault.{FoundFault}
use Rattle.gopher_catalogue.specs.Opening.{OpeningData}
use Rattle.gopher_catalogue.specs.Fault.{IsFoundFault}
use Rattle.gopher_catalogue.specs.EventOf.{event_data}
use Rattle.gopher_catalogue.specs.Legal.{IsLegal}
use Rattle.gopher_catalogue.specs.Pages.{pages_found}
use Rattle.gopher_catalogue.specs.declared.frontier.sizes.Added.{Added}
use Rattle.gopher_catalogue.specs.declared.frontier.sizes.Status.{Status}
use Rattle.gopher_catalogue.specs.Step.{TurnData, Take, Idle, turn_of, after_turn, added_by, found_fault, is_out_in, status_of}
use Rattle.gopher_catalogue.specs.Turn.{IsTake}
use Rattle.gopher_crew.specs.declared.desk.outcomes.Outcomes.{Outcomes}
use Rattle.gopher_crew.specs.Publication.{PublicationData}
use Rattle.gopher_crew.specs.Share.{ShareData, MadeNext}

-- there is a note exactly if the published record is the whole record, and the note is of that
-- record
abbrev pub IsNoted : Option (List EventData) → PublicationData → Type 0
IsNoted (Some note) it = (note ≡ it.events) × (it.published ≡ it.events)
IsNoted None it = it.published ≢ it.events

-- by how much a share rises at a turn
abbrev pub rise_of : TurnData → ℕ
rise_of (Take number place) = 1
rise_of turn = 0

-- what each call keeps: the record begins with what the share had seen, and the share then has seen
-- the legal record after the call and its makers. No less is published
pub record IsCall (old : PublicationData) (share : ShareData) (new : PublicationData)
    (share' : ShareData) : Type 0 where
  pub begins : IsPrefix share.seen old.events
  pub seen : share'.seen ≡ new.events
  pub makers : share'.makers ≡ new.makers
  pub grows : IsPrefix old.published new.published
  pub legal : IsLegal new.events

-- the record begins with this opening
abbrev pub IsOpeningOf : List EventData → OpeningData → Type 0
IsOpeningOf record_ opening = slice_get record_ 0 ≡ Some (Opened opening)

-- on some record that begins with what was seen
pub record Later (seen : List EventData) (HoldsOn : List EventData → Type 0) : Type 0 where
  pub before : List EventData
  pub begins : IsPrefix seen before
  pub holds : HoldsOn before

-- on the record before, a claim returns this turn. The share then has seen the legal record after
-- the turn. It made the event of a claimed place
pub record Claims (turn : TurnData) (share : ShareData) (before : List EventData) : Type 0 where
  pub is_turn : turn_of before ≡ turn
  pub is_after : share.seen ≡ after_turn before turn
  pub is_legal : IsLegal share.seen
  pub makes : IsTake turn → MadeNext share before

-- on the record before, the page is accepted and adds `added`. The share then has seen the legal
-- record that ends with the page, and made this event
pub record Finds (number : ℕ) (page : PageData) (added : Added) (share : ShareData)
    (before : List EventData) : Type 0 where
  pub is_right : found_fault before number page.place ≡ None
  pub is_added : added_by before number page ≡ added
  pub is_after : share.seen ≡ before ++ Found number page ∷ []
  pub is_legal : IsLegal share.seen
  pub makes : MadeNext share before

-- on the record before, the number is out. The share then has seen the legal record that ends with
-- the failure, and made this event
pub record Fails (number : ℕ) (why : Why) (share : ShareData) (before : List EventData)
    : Type 0 where
  pub is_out : is_out_in before number ≡ true
  pub is_after : share.seen ≡ before ++ Failed number why ∷ []
  pub is_legal : IsLegal share.seen
  pub makes : MadeNext share before

-- a turn other than waiting for the outcomes of others
abbrev pub IsNotIdle : TurnData → Type 0
IsNotIdle Idle = ⊥
IsNotIdle turn = Unit {0}

-- on the legal record that the share has seen, a place waits
abbrev pub LetsClaim : ShareData → Type 0
LetsClaim share = IsTake (turn_of share.seen) × IsLegal share.seen

-- on the legal record that the share has seen, the page is refused for this fault
abbrev pub RefusesFind : ℕ → PageData → FoundFault → ShareData → Type 0
RefusesFind number page fault share =
    IsFoundFault (found_fault share.seen number page.place) fault × IsLegal share.seen

-- on the legal record that the share has seen, the number isn't out
abbrev pub RefusesFailure : ℕ → ShareData → Type 0
RefusesFailure number share = (is_out_in share.seen number ≡ false) × IsLegal share.seen

-- this is the status of a legal record
abbrev pub IsStatusOf : Status → List EventData → Type 0
IsStatusOf status record_ = (status ≡ status_of record_) × IsLegal record_

-- the status of a legal record that begins with the one that a desk was opened with
abbrev pub IsStatusAfter : List EventData → Status → Type 0
IsStatusAfter opened status = Later opened (IsStatusOf status)

-- these are the states of places of a legal record, and the number of pages that it found
abbrev pub AreOutcomesOf : Outcomes → List EventData → Type 0
AreOutcomesOf outcomes record_ =
    (outcomes.status ≡ status_of record_)
    × (outcomes.found ≡ length (pages_found record_)) × IsLegal record_

-- the states and the pages of a legal record that begins with the one that a desk was opened with
abbrev pub AreOutcomesAfter : List EventData → Outcomes → Type 0
AreOutcomesAfter opened outcomes = Later opened (AreOutcomesOf outcomes)

-- these are the events of a legal record
abbrev pub AreEventsOf : List Event → List EventData → Type 0
AreEventsOf events record_ = (map event_data events ≡ record_) × IsLegal record_

-- the events of a legal record that begins with the one that a desk was opened with
abbrev pub IsRecordAfter : List EventData → List Event → Type 0
IsRecordAfter opened events = Later opened (AreEventsOf events)
