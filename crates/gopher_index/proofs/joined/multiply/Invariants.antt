use Rattle.std.proofs.Common.{◌≡◌, ◌*◌, take}
use Rattle.gopher_index.specs.Plan.{zipped}
use Rattle.gopher_index.proofs.joined.multiply.Given as goal

abbrev pub invariant-loop-index : goal.invariant-loop-index
invariant-loop-index l = l.scores ≡ zipped (λ score count. l.times * score) l.initial.scores (take l.index l.initial.scores)
