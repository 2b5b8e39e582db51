use Rattle.std.proofs.Common.{map, take}
use Rattle.gopher_catalogue.specs.EventOf.{event_data}
use Rattle.gopher_check.specs.Reach.{AddsPlaces, places_found}
use Rattle.gopher_check.proofs.reach.found_in.Given as goal

abbrev pub invariant-loop-event : goal.invariant-loop-event
invariant-loop-event l =
    AddsPlaces (places_found (map event_data (take l.event-index l.events))) l.initial.set l.set
