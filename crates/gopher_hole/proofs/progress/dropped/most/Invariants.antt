use Rattle.std.proofs.Common.{take}
use Rattle.gopher_hole.specs.Dropped.{IsMost}
use Rattle.gopher_hole.proofs.progress.dropped.most.Given as goal

abbrev pub invariant-loop-index : goal.invariant-loop-index
invariant-loop-index l = IsMost (take l.index l.numbers) l.best
