use Rattle.std.proofs.Common.{◌-◌, ◌≤◌, length}
use Rattle.gopher_index.proofs.likely.likely_score.Given as goal

abbrev pub invariant-loop-start : goal.invariant-loop-start
invariant-loop-start l = l.start ≤ length l.verdicts

abbrev pub decreases-loop-start : goal.decreases-loop-start
decreases-loop-start l = length l.verdicts - l.start
