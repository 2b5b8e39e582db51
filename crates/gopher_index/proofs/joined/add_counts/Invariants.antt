use Rattle.std.proofs.Common.{◌≡◌, ◌+◌, take}
use Rattle.gopher_index.specs.Plan.{zipped}
use Rattle.gopher_index.proofs.joined.add_counts.Given as goal

abbrev pub invariant-loop-index : goal.invariant-loop-index
invariant-loop-index l = l.scores ≡ zipped (λ score count. score + count) l.initial.scores (take l.index l.counts)
