use Rattle.std.proofs.Common.{map, take}
use Rattle.std.specs.Arc.{arc_value}
use Rattle.gopher_check.specs.Reach.{AddsPlaces}
use Rattle.gopher_check.proofs.reach.set_of.Given as goal

abbrev pub invariant-loop-place : goal.invariant-loop-place
invariant-loop-place l = AddsPlaces (map arc_value (take l.place-index l.places)) l.initial.set l.set
