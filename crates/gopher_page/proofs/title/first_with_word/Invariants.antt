use Rattle.std.proofs.Common.{◌≡◌}
use Rattle.std.specs.List.{find}
use Rattle.gopher_page.specs.Page.{has_word}
use Rattle.gopher_page.proofs.title.first_with_word.Given as goal

abbrev pub invariant-loop-line : goal.invariant-loop-line
invariant-loop-line l = find has_word l.line-iterator ≡ find has_word l.lines
