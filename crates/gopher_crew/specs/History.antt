-- The one history of a crew: the list of the events that were entered into it, each with the number
-- of the share that made it. It only grows.
use Rattle.std.specs.Prelude.{ℕ, ◌≡◌, ◌==◌, Bool, true, false, ◌-◌, List, [], ◌∷◌, ◌++◌, length, map, replicate, MatchBool}
use mathlib.Core.List.{IsPrefix}
use Rattle.logbook.specs.Pages.{Cell, Step, View, Book, Named}
use Rattle.gopher_catalogue.specs.declared.event.EventData.{EventData}

-- an event, and the number of the share that made it
abbrev pub MadeEvent : Type 0
MadeEvent = EventData × ℕ

-- the events of these, and who made each
abbrev pub events_in : List MadeEvent → List EventData
events_in made = map (λ (it : MadeEvent). it.0) made

abbrev pub makers_in : List MadeEvent → List ℕ
makers_in made = map (λ (it : MadeEvent). it.1) made

-- a prefix of a history: which history it is, the prefix's events, and who made each
pub record RecordPrefixData : Type 0 where
  pub history : Book
  pub events : List EventData
  pub makers : List ℕ

-- another prefix goes on from this one, with the same makers
pub record GoesOn (this other : RecordPrefixData) : Type 0 where
  pub events : IsPrefix this.events other.events
  pub makers : IsPrefix this.makers other.makers

-- what another prefix has more was made by one share
abbrev pub IsMadeBy : ℕ → RecordPrefixData → RecordPrefixData → Type 0
IsMadeBy maker old new =
    new.makers ≡ old.makers ++ replicate (length new.events - length old.events) maker

-- if the event was added, it comes last, with its maker
abbrev pub AddsEventTo : Bool → MadeEvent → RecordPrefixData → RecordPrefixData → Type 0
AddsEventTo true made old new =
    (new.events ≡ old.events ++ made.0 ∷ []) × (new.makers ≡ old.makers ++ made.1 ∷ [])
AddsEventTo false made old new = new ≡ old

-- ---- the rule

-- the first word is the length of the history; a history has two words, of which the second stays 0
abbrev pub IsCounted : List Cell → List MadeEvent → Type 0
IsCounted cells made = cells ≡ (length made, true) ∷ (0, true) ∷ []

-- the word of a history
abbrev pub head_of : Book → Named
head_of history = record { tracked = true; key = 0; book = history }

-- this was added after all that was seen
abbrev pub HasMore : List MadeEvent → MadeEvent → List MadeEvent → Type 0
HasMore before made after = after ≡ before ++ made ∷ []

-- if the word was as expected, the exchange added the entry after all that was seen
abbrev pub ExchangeAdds : Step MadeEvent → View MadeEvent ℕ → ℕ → View MadeEvent ℕ → Type 0
ExchangeAdds step before found after =
    MatchBool (found == step.old) (after.0 ≡ before.0 ++ step.ask ∷ []) (Unit {0})
