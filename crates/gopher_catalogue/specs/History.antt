-- A record with reserved room for more events, and its opening.
use Rattle.std.specs.Prelude.{◌≡◌, ℕ, ◌+◌, List, [], ◌∷◌, ◌++◌}
use Rattle.gopher_catalogue.specs.Event.{OpeningData, EventData, Opened}

-- the events of a record, and how many more fit without allocating
pub record RecordData : Type 0 where
  pub events : List EventData
  pub room : ℕ

-- one more event, in the room that was reserved
pub record Grown (before : RecordData) (event : EventData) (after : RecordData) : Type 0 where
  pub events : after.events ≡ before.events ++ event ∷ []
  pub room : after.room + 1 ≡ before.room

-- the opening, which the first event contains, and the events after it
abbrev pub opening_in : List EventData → OpeningData
opening_in (Opened opening ∷ events) = opening
opening_in events =
    record { scope = record { allow = []; deny = [] }; seeds = []; limit = 0; tries = 0 }

abbrev pub later_in : List EventData → List EventData
later_in (event ∷ events) = events
later_in [] = []

-- the first event is the opening
abbrev pub IsOpened : List EventData → Type 0
IsOpened events = events ≡ Opened (opening_in events) ∷ later_in events
