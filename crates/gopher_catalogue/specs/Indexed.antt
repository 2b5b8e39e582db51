-- The relation between the record and the tables that the catalogue keeps beside it.
use Rattle.std.specs.Prelude.{◌≡◌, ℕ, ◌≤◌, List, length, map}
use Rattle.gopher_catalogue.specs.declared.frontier.known.Standing.{Standing}
use Rattle.gopher_catalogue.specs.Event.{OpeningData, EventData}
use Rattle.gopher_catalogue.specs.Frontier.{known, dropped, numbers, waiting, out, done, claims, is_out}
use Rattle.gopher_catalogue.specs.FrontierTables.{FrontierData}
use Rattle.gopher_catalogue.specs.Legal.{IsLegal}
use Rattle.gopher_catalogue.specs.History.{RecordData, opening_in, later_in}

-- the state of a number after these events
abbrev pub standing_of : List EventData → ℕ → Standing
standing_of events number = record { claims = claims events number; is_out = is_out events number }

-- the tables are those of the record
pub record Tells (opening : OpeningData) (events : List EventData)
    (frontier : FrontierData) : Type 0 where
  pub limit_is : frontier.limit ≡ opening.limit
  pub tries_is : frontier.tries ≡ opening.tries
  pub places_is : frontier.known.places ≡ known opening events
  pub standings_is : frontier.known.standings ≡ map (standing_of events) (numbers opening events)
  pub none_fresh : frontier.fresh ≡ 0
  pub waiting_is : frontier.waiting ≡ waiting opening events
  pub out_is : frontier.out ≡ length (out opening events)
  pub done_is : frontier.done ≡ length (done opening events)
  pub dropped_is : frontier.dropped ≡ dropped opening events

-- the record is legal and has room for the outcome of each place that is out, and the tables are
-- its own
pub record IsIndexed (record_ : RecordData) (frontier : FrontierData) : Type 0 where
  pub legal : IsLegal record_.events
  pub tells : Tells (opening_in record_.events) (later_in record_.events) frontier
  pub record_room : frontier.out ≤ record_.room
