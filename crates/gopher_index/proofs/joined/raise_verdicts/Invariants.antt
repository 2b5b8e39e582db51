use Rattle.std.proofs.Common.{◌≡◌, max, take}
use Rattle.gopher_index.specs.Plan.{zipped, verdict_by}
use Rattle.gopher_index.proofs.joined.raise_verdicts.Given as goal

abbrev pub invariant-loop-index : goal.invariant-loop-index
invariant-loop-index l = l.verdicts ≡ zipped (λ verdict count. max verdict (verdict_by l.group count)) l.initial.verdicts (take l.index l.counts)
