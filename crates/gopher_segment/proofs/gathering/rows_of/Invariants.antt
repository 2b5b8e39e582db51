use Rattle.std.proofs.Common.{map, take}
use Rattle.std.specs.Arc.{arc_value}
use Rattle.gopher_segment.specs.Large.{table_pages}
use Rattle.gopher_segment.specs.SegmentRows.{Tell, AreSmall}
use Rattle.gopher_segment.proofs.gathering.rows_of.Given as goal

abbrev pub invariant-loop-index : goal.invariant-loop-index
invariant-loop-index l = record {
  tell : Tell l.first (table_pages (map arc_value (take l.index l.pages))) l.rows.items;
  small : AreSmall (map arc_value (take l.index l.pages));
}
