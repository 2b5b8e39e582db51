use Rattle.std.proofs.Common.{◌≡◌, ◌++◌, length}
use Rattle.gopher_bytes.specs.Lines.{any_last_line, lines_of}
use Rattle.gopher_text.specs.Text.{text_lines, HoldNoFeed}
use Rattle.gopher_text.proofs.text.read_text.Given as goal

abbrev pub invariant-loop-line : goal.invariant-loop-line
invariant-loop-line l =
    (l.lines ++ text_lines l.rest ≡ text_lines l.bytes) × (any_last_line (lines_of l.rest) ≡ any_last_line (lines_of l.bytes))
    × HoldNoFeed l.lines

abbrev pub decreases-loop-line : goal.decreases-loop-line
decreases-loop-line l = length l.rest
