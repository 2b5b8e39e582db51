use Rattle.std.proofs.Common.{◌≡◌, ◌++◌, length}
use Rattle.std.specs.Io.{StartsWith}
use Rattle.gopher_bytes.specs.Lines.{lines_of}
use Rattle.gopher_text.specs.Text.{text_bytes}
use Rattle.gopher_text.proofs.writing.push_lines_of.Given as goal

abbrev pub invariant-loop-line : goal.invariant-loop-line
invariant-loop-line l =
    (l.out.items ++ text_bytes (lines_of l.rest) ≡ l.fn.out.items ++ text_bytes (lines_of l.bytes)) × StartsWith l.out.items l.fn.out.items

abbrev pub decreases-loop-line : goal.decreases-loop-line
decreases-loop-line l = length l.rest
