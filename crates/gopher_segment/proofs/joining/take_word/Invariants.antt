use Rattle.std.proofs.Common.{◌≡◌, ◌<◌, ◌≤◌, ◌-◌, length, drop}
use Rattle.gopher_segment.specs.Rows.{joined_from, joined_rows}
use Rattle.gopher_segment.proofs.RowLemmas.{word_at}
use Rattle.gopher_segment.proofs.joining.take_word.Given as goal

abbrev pub invariant-loop-end : goal.invariant-loop-end
invariant-loop-end l = record {
  forward : l.start < l.end;
  inside : l.end ≤ length l.rows;
  whole : l.runs.whole ≡ l.fn.runs.whole;
  joined : joined_rows (drop l.start l.rows) ≡ joined_from (word_at l.rows l.start, l.runs.begun) (drop l.end l.rows);
}

abbrev pub decreases-loop-end : goal.decreases-loop-end
decreases-loop-end l = length l.rows - l.end
