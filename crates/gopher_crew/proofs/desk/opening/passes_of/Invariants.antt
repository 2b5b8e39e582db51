use Rattle.std.proofs.Common.{◌≡◌}
use Rattle.std.proofs.Math.ListN.{replicate}
use Rattle.gopher_crew.specs.Desk.{has_seen}
use Rattle.gopher_crew.proofs.desk.opening.passes_of.Given as goal

abbrev pub invariant-loop-index : goal.invariant-loop-index
invariant-loop-index g l = l.list.items ≡ replicate l._index (has_seen l.prefix.events)
