use Rattle.std.proofs.Common.{◌-◌, ◌≤◌, length}
use Rattle.gopher_page.proofs.counts.sizes_of.Given as goal

abbrev pub invariant-loop-start : goal.invariant-loop-start
invariant-loop-start l = l.start ≤ length l.words

abbrev pub decreases-loop-start : goal.decreases-loop-start
decreases-loop-start l = length l.words - l.start
