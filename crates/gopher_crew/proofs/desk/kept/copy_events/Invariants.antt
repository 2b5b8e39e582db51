use Rattle.std.proofs.Common.{◌≡◌, map, take}
use Rattle.gopher_catalogue.specs.EventOf.{event_data}
use Rattle.gopher_crew.proofs.desk.kept.copy_events.Given as goal

abbrev pub invariant-loop-event : goal.invariant-loop-event
invariant-loop-event l = map event_data l.copies.items ≡ map event_data (take l.event-index l.events)
