use Rattle.std.proofs.Common.{◌≡◌, map, take}
use Rattle.std.specs.Arc.{arc_value}
use Rattle.gopher_segment.specs.Segment.{pages_of}
use Rattle.gopher_segment.specs.SegmentRows.{AreSmall}
use Rattle.gopher_segment.proofs.segment.shared_pages.Given as goal

abbrev pub invariant-loop-segment : goal.invariant-loop-segment
invariant-loop-segment l = record {
  pages_so_far : map arc_value l.pages.items ≡ pages_of (map arc_value (take l.segment-index l.segments));
  small : AreSmall (map arc_value l.pages.items);
}
