use Rattle.std.proofs.Common.{length}
use Rattle.gopher_hole.proofs.checking.aliases.push_aliases.Given as goal

abbrev pub decreases-loop-line : goal.decreases-loop-line
decreases-loop-line l = length l.rest
