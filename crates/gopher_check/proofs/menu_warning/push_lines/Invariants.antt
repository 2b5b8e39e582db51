use Rattle.std.proofs.Common.{◌≡◌, ◌++◌, ◌+◌, ◌≤◌, length}
use Rattle.gopher_bytes.specs.Lines.{lines_of}
use Rattle.gopher_check.specs.MenuWarning.{line_mistakes, numbered_mistakes}
use Rattle.gopher_check.proofs.menu_warning.push_lines.Given as goal

abbrev pub invariant-loop-line : goal.invariant-loop-line
invariant-loop-line l =
    (l.out.items ++ line_mistakes l.tree l.home l.path (l.number + 1) (lines_of l.rest)
    ≡ l.fn.out.items ++ numbered_mistakes l.tree l.home l.path l.menu)
    × (l.number + length l.rest ≤ length l.menu)

abbrev pub decreases-loop-line : goal.decreases-loop-line
decreases-loop-line l = length l.rest
