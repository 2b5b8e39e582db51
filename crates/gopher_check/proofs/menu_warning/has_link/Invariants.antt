use Rattle.std.proofs.Common.{◌≡◌, length}
use Rattle.gopher_check.specs.MenuWarning.{has_link}
use Rattle.gopher_check.proofs.menu_warning.has_link.Given as goal

abbrev pub invariant-loop-line : goal.invariant-loop-line
invariant-loop-line l = has_link l.rest ≡ has_link l.menu

abbrev pub decreases-loop-line : goal.decreases-loop-line
decreases-loop-line l = length l.rest
