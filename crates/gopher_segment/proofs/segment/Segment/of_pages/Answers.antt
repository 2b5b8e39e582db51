use Rattle.std.proofs.Common.{◌++◌, map, sym, ap, subst, ◌∙◌}
use Rattle.std.specs.Arc.{arc_value}
use Rattle.gopher_segment.specs.Large.{table_pages}
use Rattle.gopher_segment.specs.SegmentRows.{AreRowsOf, AreSmall}
use Rattle.gopher_segment.proofs.segment.Segment.of_pages.Goals as goal

pub of_table-requires-clause-table : goal.of_table-requires-clause-table
of_table-requires-clause-table c =
    subst (λ l. AreRowsOf c.args.first (table_pages l) c.in_ok-table.table) (sym (c.in_ok-share.ensures.shared ∙ ap (λ l. map arc_value l ++ map arc_value c.args.pages.now) c.new-list.ensures.items))
    (record { order = c.in_ok-table.ensures.order; tell = λ word. c.in_ok-table.ensures.alike word ∙ c.in_ok-rows.ensures.tell word })

pub of_table-requires-clause-small : goal.of_table-requires-clause-small
of_table-requires-clause-small c = subst AreSmall (sym (c.in_ok-share.ensures.shared ∙ ap (λ l. map arc_value l ++ map arc_value c.args.pages.now) c.new-list.ensures.items)) c.in_ok-rows.ensures.small
