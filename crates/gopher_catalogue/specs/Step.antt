-- The sequential catalogue: the result of each call on a record, and the record after it, if memory
-- suffices.
use Rattle.std.specs.Prelude.{ℕ, ◌-◌, Bool, false, ◌&&◌, not, List, [], ◌∷◌, ◌++◌, length, Option, None, Some, slice_get, ◌==◌, nat_lt, nat_le, if◌then◌else◌}
use Rattle.std.specs.Option.{option_map_or}
use Rattle.gopher_item.specs.Place.{PlaceData, same_place}
use Rattle.gopher_item.specs.Scope.{ScopeData, first_outside}
use Rattle.gopher_item.specs.declared.limits.TheConstants.{MAX_PLACES, MAX_TRIES}
use Rattle.gopher_page.specs.Page.{PageData}
use Rattle.gopher_catalogue.specs.declared.fault.OpenFault.{OpenFault}
use Rattle.gopher_catalogue.specs.declared.fault.OpenFault.TheVariants.{SeedOutOfScope, BadPlaces, BadTries}
use Rattle.gopher_catalogue.specs.declared.fault.FoundFault.{FoundFault}
use Rattle.gopher_catalogue.specs.declared.fault.FoundFault.TheVariants.{NotOut, WrongPlace}
use Rattle.gopher_catalogue.specs.Opening.{opening_of}
use Rattle.gopher_catalogue.specs.Event.{EventData, Opened, Claimed, Found}
use Rattle.gopher_catalogue.specs.Frontier.{known, dropped, waiting, out, done, is_out}
pub use Rattle.gopher_catalogue.specs.declared.frontier.sizes.Added.{Added}
pub use Rattle.gopher_catalogue.specs.declared.frontier.sizes.Status.{Status}

-- ---- open

-- the first fault of the arguments of an opening, if they have one
abbrev pub open_fault : ScopeData → List PlaceData → ℕ → ℕ → Option OpenFault
open_fault scope seeds limit tries =
    option_map_or (λ index. Some (SeedOutOfScope index))
    (first_outside scope seeds)
    (if not (nat_le 1 limit && nat_le limit MAX_PLACES) then Some BadPlaces
    else (if not (nat_le 1 tries && nat_le tries MAX_TRIES) then Some BadTries else None))

-- the record of a new crawl
abbrev pub opened_record : ScopeData → List PlaceData → ℕ → ℕ → List EventData
opened_record scope seeds limit tries = Opened (opening_of scope seeds limit tries) ∷ []

-- ---- claim

-- the result of a claim, as data
pub data TurnData : Type 0 where
  Take : (number : ℕ) (place : PlaceData) → TurnData
  Idle : TurnData
  Finished : TurnData

-- takes the first waiting number, whose place is known
unfoldable pub turn_of : List EventData → TurnData
turn_of (Opened opening ∷ events) =
    option_map_or
    (λ number. option_map_or (Take number) (slice_get (known opening events) number) Idle)
    (slice_get (waiting opening events) 0)
    (if length (out opening events) == 0 then Finished else Idle)
turn_of events = Finished

abbrev pub after_turn : List EventData → TurnData → List EventData
after_turn events (Take number place) = events ++ Claimed number ∷ []
after_turn events turn = events

-- ---- found

-- the number is of a known place that is out
unfoldable pub is_out_in : List EventData → ℕ → Bool
is_out_in (Opened opening ∷ events) number =
    nat_lt number (length (known opening events)) && is_out events number
is_out_in events number = false

-- the known places, each at its number
unfoldable pub places_of : List EventData → List PlaceData
places_of (Opened opening ∷ events) = known opening events
places_of events = []

-- the place of the number is this one
abbrev pub is_place_at : List PlaceData → ℕ → PlaceData → Bool
is_place_at places number place =
    option_map_or (λ other. same_place other place) (slice_get places number) false

abbrev pub found_fault : List EventData → ℕ → PlaceData → Option FoundFault
found_fault events number place =
    if not (is_out_in events number) then Some NotOut
    else (if not (is_place_at (places_of events) number place) then Some WrongPlace else None)

-- ---- status

unfoldable pub status_of : List EventData → Status
status_of (Opened opening ∷ events) =
    record {
      known = length (known opening events);
      waiting = length (waiting opening events);
      out = length (out opening events);
      done = length (done opening events);
      dropped = dropped opening events;
    }
status_of events = record { known = 0; waiting = 0; out = 0; done = 0; dropped = 0 }

-- how many places a page adds to the known ones, and how many of its mentions are dropped
unfoldable pub added_by : List EventData → ℕ → PageData → Added
added_by events number page =
    let after = status_of (events ++ Found number page ∷ []) in
    record {
      fresh = after.known - (status_of events).known;
      dropped = after.dropped - (status_of events).dropped;
    }

-- nothing waits and nothing is out
abbrev pub is_finished : List EventData → Bool
is_finished events = ((status_of events).waiting == 0) && ((status_of events).out == 0)
