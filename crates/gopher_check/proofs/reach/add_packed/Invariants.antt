use Rattle.std.proofs.Common.{take}
use Rattle.gopher_check.specs.Reach.{AddsPlaces}
use Rattle.gopher_check.proofs.reach.add_packed.Given as goal

abbrev pub invariant-loop-index : goal.invariant-loop-index
invariant-loop-index l = AddsPlaces (take l.index l.places) l.initial.set l.set
