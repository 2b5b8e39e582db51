-- Which outcomes of places a desk takes, by the rule of its caller.
use Rattle.std.specs.Prelude.{◌≡◌, ℕ, List, ◌∷◌, Some, slice_get, take, IsTrue}
use mathlib.Core.List.{IsPrefix}
use Rattle.gopher_item.specs.Place.{PlaceData}
use Rattle.gopher_catalogue.specs.declared.event.EventData.{EventData}
use Rattle.gopher_catalogue.specs.declared.event.EventData.TheVariants.{Opened}
use Rattle.gopher_catalogue.specs.Closure.{OutcomeTable, Agrees, IsTold, is_outcome_of}
use Rattle.gopher_catalogue.specs.Opening.{OpeningData}
use Rattle.gopher_catalogue.specs.Legal.{IsLegal}
use Rattle.gopher_catalogue.specs.Step.{places_of}

-- a rule of outcomes: which events are admitted as outcomes of a place
abbrev pub EventRule : Type 1
EventRule = PlaceData → EventData → Type 0

-- the number is that of this place on the record
abbrev pub IsPlaceIn : List EventData → ℕ → PlaceData → Type 0
IsPlaceIn record_ number place = slice_get (places_of record_) number ≡ Some place

-- if the event is an outcome of a number, it is admitted for the place of that number on the record
-- before
abbrev pub IsAdmitted : EventRule → List EventData → EventData → Type 0
IsAdmitted admits before event =
    (number : ℕ) (place : PlaceData) → IsTrue (is_outcome_of number event)
    → IsPlaceIn before number place → admits place event

-- each outcome in the record is admitted for its place
pub record AllAdmitted (admits : EventRule) (record_ : List EventData) : Type 0 where
  pub each : (k : ℕ) (event : EventData) → slice_get record_ k ≡ Some event
      → IsAdmitted admits (take k record_) event

-- the event is admitted on each legal record that begins with what was seen
pub record MayAdd (admits : EventRule) (seen : List EventData) (event : EventData) : Type 0 where
  pub later : (before : List EventData) → IsPrefix seen before → IsLegal before
      → IsAdmitted admits before event

-- a legal record agrees with a table of outcomes if no other outcomes are admitted than the table's
abbrev pub AdmittedOutcomesAgree : Type 0
AdmittedOutcomesAgree =
    (opening : OpeningData) (events : List EventData) (table : OutcomeTable)
    → IsLegal (Opened opening ∷ events)
    → AllAdmitted (λ place event. IsTold opening.scope place (table place) (Some event))
    (Opened opening ∷ events)
    → Agrees opening events table
