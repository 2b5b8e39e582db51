use Rattle.std.proofs.Common.{map, take}
use Rattle.std.specs.Arc.{arc_value}
use Rattle.gopher_segment.specs.Ranks.{AreNumbered}
use Rattle.gopher_segment.proofs.ranks.placed_of.Given as goal

abbrev pub invariant-loop-index : goal.invariant-loop-index
invariant-loop-index l = AreNumbered (map arc_value (take l.index l.pages)) l.placed.items
