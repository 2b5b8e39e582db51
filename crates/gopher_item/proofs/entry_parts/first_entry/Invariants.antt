use Rattle.std.proofs.Common.{◌≡◌, ◌≤◌, length}
use Rattle.gopher_bytes.specs.Lines.{lines_of}
use Rattle.gopher_item.specs.Menu.{entries_of}
use Rattle.gopher_item.proofs.entry_parts.first_entry.Given as goal

abbrev pub invariant-loop-line : goal.invariant-loop-line
invariant-loop-line l = record {
  same : entries_of (lines_of l.rest) ≡ entries_of (lines_of l.menu);
  within : length l.rest ≤ length l.menu;
}

abbrev pub decreases-loop-line : goal.decreases-loop-line
decreases-loop-line l = length l.rest
