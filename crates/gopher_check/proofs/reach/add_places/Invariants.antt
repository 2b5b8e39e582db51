use Rattle.std.proofs.Common.{take}
use Rattle.gopher_check.specs.Reach.{AddsPlaces}
use Rattle.gopher_check.proofs.reach.add_places.Given as goal

abbrev pub invariant-loop-place : goal.invariant-loop-place
invariant-loop-place l = AddsPlaces (take l.place-index l.places) l.initial.set l.set
