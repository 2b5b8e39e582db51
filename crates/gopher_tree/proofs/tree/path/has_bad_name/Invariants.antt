use Rattle.std.proofs.Common.{◌≡◌, length}
use Rattle.gopher_tree.specs.Path.{names_of, has_bad_name}
use Rattle.gopher_tree.proofs.tree.path.has_bad_name.Given as goal

abbrev pub invariant-loop-name : goal.invariant-loop-name
invariant-loop-name l = has_bad_name (names_of l.rest) ≡ has_bad_name (names_of l.path)

abbrev pub decreases-loop-name : goal.decreases-loop-name
decreases-loop-name l = length l.rest
