use Rattle.std.proofs.Common.{◌≡◌, length}
use Rattle.gopher_scope.specs.Warnings.{menu_offers}
use Rattle.gopher_scope.proofs.report.links.menu_offers.Given as goal

abbrev pub invariant-loop-line : goal.invariant-loop-line
invariant-loop-line l = menu_offers l.home l.rest ≡ menu_offers l.home l.menu

abbrev pub decreases-loop-line : goal.decreases-loop-line
decreases-loop-line l = length l.rest
