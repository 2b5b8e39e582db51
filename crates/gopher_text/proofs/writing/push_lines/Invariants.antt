use Rattle.std.proofs.Common.{◌≡◌, ◌++◌, take}
use Rattle.std.specs.List.{flat_map}
use Rattle.gopher_text.specs.Text.{lines_in, text_line_bytes}
use Rattle.gopher_text.proofs.writing.push_lines.Given as goal

abbrev pub invariant-loop-line : goal.invariant-loop-line
invariant-loop-line l = l.out.items ≡ l.fn.out.items ++ flat_map text_line_bytes (lines_in (take l.line-index l.lines))
