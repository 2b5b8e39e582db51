use Rattle.std.proofs.Common.{◌≡◌, map, take}
use Rattle.std.specs.Arc.{arc_value}
use Rattle.gopher_segment.specs.Segment.{pages_of}
use Rattle.gopher_index.proofs.part.pages_in.Given as goal

abbrev pub invariant-loop-part : goal.invariant-loop-part
invariant-loop-part l = map arc_value l.pages.items ≡ pages_of (take l.part-index l.parts)
