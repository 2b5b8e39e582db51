use Rattle.std.proofs.Common.{◌≡◌, ◌≤◌, ◌-◌, ◌++◌, [], length, drop}
use Rattle.std.specs.List.{zip}
use Rattle.gopher_segment.specs.Rows.{joined_rows}
use Rattle.gopher_segment.proofs.joining.table_of.Given as goal

abbrev pub invariant-loop-at : goal.invariant-loop-at
invariant-loop-at l = record {
  same : length l.runs.whole ≡ length l.words;
  ended : l.runs.begun ≡ [];
  inside : l.at ≤ length l.rows;
  joined : zip l.words l.runs.whole ++ joined_rows (drop l.at l.rows) ≡ joined_rows l.rows;
}

abbrev pub decreases-loop-at : goal.decreases-loop-at
decreases-loop-at l = length l.rows - l.at
