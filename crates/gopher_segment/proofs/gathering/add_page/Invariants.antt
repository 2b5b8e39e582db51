use Rattle.std.proofs.Common.{◌≡◌, ◌≤◌, ◌+◌, ◌-◌, ◌++◌, length, take, vec_len, vec_capacity}
use Rattle.gopher_segment.specs.Rows.{page_rows}
use Rattle.gopher_segment.proofs.gathering.add_page.Given as goal

abbrev pub invariant-loop-index : goal.invariant-loop-index
invariant-loop-index l = record {
  so_far : l.rows.items ≡ l.fn.rows.items ++ page_rows l.number (take l.index l.counts);
  room : vec_len l.rows + (length l.counts - l.index) ≤ vec_capacity l.rows;
}
