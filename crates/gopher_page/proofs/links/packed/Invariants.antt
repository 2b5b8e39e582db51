use Rattle.std.proofs.Common.{◌≡◌, ◌++◌, length}
use Rattle.gopher_page.proofs.links.packed.Given as goal

abbrev pub invariant-loop-place : goal.invariant-loop-place
invariant-loop-place l = l.links ++ l.places ≡ l.fn.places

abbrev pub decreases-loop-place : goal.decreases-loop-place
decreases-loop-place l = length l.places
