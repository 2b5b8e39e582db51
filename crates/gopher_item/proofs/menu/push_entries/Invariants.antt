use Rattle.std.proofs.Common.{◌≡◌, ℕ, List, ◌++◌, length}
use Rattle.gopher_bytes.specs.Lines.{any_last_line, lines_of}
use Rattle.gopher_item.specs.Menu.{entries_of}
use Rattle.gopher_item.proofs.menu.push_entries.Given as goal

abbrev pub invariant-loop-line : goal.invariant-loop-line
invariant-loop-line l =
    (l.entries.items ++ entries_of (lines_of l.rest) ≡ entries_of (lines_of l.bytes)) × (any_last_line (lines_of l.rest) ≡ any_last_line (lines_of l.bytes))
    × ((seen : List ℕ) × (l.bytes ≡ seen ++ l.rest))

abbrev pub decreases-loop-line : goal.decreases-loop-line
decreases-loop-line l = length l.rest
