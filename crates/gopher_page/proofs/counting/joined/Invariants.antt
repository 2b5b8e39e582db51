use Rattle.std.proofs.Common.{◌≡◌, ◌++◌}
use Rattle.gopher_page.specs.Words.{joined_lines}
use Rattle.gopher_page.proofs.counting.joined.Given as goal

abbrev pub invariant-loop-line : goal.invariant-loop-line
invariant-loop-line l = l.text.items ++ joined_lines l.line-iterator ≡ joined_lines l.lines
