use Rattle.std.proofs.Common.{◌≡◌, ◌++◌, ◌+◌, ◌≤◌, length}
use Rattle.gopher_bytes.specs.Lines.{lines_of}
use Rattle.gopher_scope.specs.Warnings.{lines_warnings, menu_warnings}
use Rattle.gopher_scope.proofs.report.links.push_menu.Given as goal

abbrev pub invariant-loop-line : goal.invariant-loop-line
invariant-loop-line l =
    (l.out.items ++ lines_warnings l.site l.path (l.number + 1) (lines_of l.rest) ≡ l.fn.out.items ++ menu_warnings l.site (l.path, l.menu))
    × (l.number + length l.rest ≤ length l.menu)

abbrev pub decreases-loop-line : goal.decreases-loop-line
decreases-loop-line l = length l.rest
