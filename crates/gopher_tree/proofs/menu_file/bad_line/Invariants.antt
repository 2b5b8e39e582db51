use Rattle.std.proofs.Common.{◌≡◌, ◌+◌, ◌≤◌, length}
use Rattle.gopher_bytes.specs.Lines.{lines_of}
use Rattle.gopher_tree.specs.MenuFile.{bad_line_from, bad_line}
use Rattle.gopher_tree.proofs.menu_file.bad_line.Given as goal

abbrev pub invariant-loop-line : goal.invariant-loop-line
invariant-loop-line l = (bad_line_from (l.number + 1) (lines_of l.rest) ≡ bad_line l.bytes) × (l.number + length l.rest ≤ length l.bytes)

abbrev pub decreases-loop-line : goal.decreases-loop-line
decreases-loop-line l = length l.rest
