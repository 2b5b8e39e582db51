use Rattle.std.proofs.Common.{◌≡◌, length}
use Rattle.gopher_tree.specs.Path.{names_of, last_name}
use Rattle.gopher_tree.proofs.tree.path.last_name.Given as goal

abbrev pub invariant-loop-after : goal.invariant-loop-after
invariant-loop-after l = last_name (names_of l.rest) ≡ last_name (names_of l.path)

abbrev pub decreases-loop-after : goal.decreases-loop-after
decreases-loop-after l = length l.rest
