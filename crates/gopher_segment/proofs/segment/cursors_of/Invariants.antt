use Rattle.std.proofs.Common.{map, take}
use Rattle.std.specs.Arc.{arc_value}
use Rattle.gopher_segment.specs.SegmentRows.{AreSegmentTables}
use Rattle.gopher_segment.proofs.segment.cursors_of.Given as goal

abbrev pub invariant-loop-segment : goal.invariant-loop-segment
invariant-loop-segment l = AreSegmentTables (map arc_value (take l.segment-index l.segments)) l.cursors.items
