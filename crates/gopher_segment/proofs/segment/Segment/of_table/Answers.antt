use Rattle.std.proofs.Common.{map, ap, subst, ◌∙◌}
use Rattle.std.specs.Arc.{arc_value}
use Rattle.gopher_segment.specs.Large.{large_from}
use Rattle.gopher_segment.specs.Ranks.{AreRanks}
use Rattle.gopher_segment.proofs.segment.Segment.of_table.Goals as goal

pub invariant_of-result : goal.invariant_of-result
invariant_of-result c = (
  record {
    table = c.requires.table;
    small = c.requires.small;
    large_is = c.in_ok-large.ensures ∙ ap (λ l. large_from 0 (map arc_value l)) c.deref-2.ensures.value;
  },
  subst (λ l. AreRanks (map arc_value l) c.in_ok-ranks.ranks.items) c.deref.ensures.value c.in_ok-ranks.ensures,
)
