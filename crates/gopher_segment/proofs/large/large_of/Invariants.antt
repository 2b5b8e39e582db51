use Rattle.std.proofs.Common.{◌≡◌, ◌++◌, drop, map}
use Rattle.std.specs.Arc.{arc_value}
use Rattle.gopher_segment.specs.Large.{large_from}
use Rattle.gopher_segment.proofs.large.large_of.Given as goal

abbrev pub invariant-loop-index : goal.invariant-loop-index
invariant-loop-index l = l.large.items ++ large_from l.index (drop l.index (map arc_value l.pages)) ≡ large_from 0 (map arc_value l.pages)
