use Rattle.std.proofs.Common.{false, map, ap, sym, subst, ◌∙◌}
use Rattle.std.specs.Arc.{arc_value}
use Rattle.std.specs.List.{flat_map}
use Rattle.gopher_segment.specs.Large.{table_pages}
use Rattle.gopher_segment.specs.Postings.{run_of}
use Rattle.gopher_segment.specs.Rows.{AreAllInOrder, postings_of}
use Rattle.gopher_segment.specs.Segment.{meant_counts}
use Rattle.gopher_segment.proofs.SegmentLemmas.{tables_order, tables_runs}
use Rattle.gopher_segment.proofs.segment.Segment.merged.Goals as goal

pub merge-requires : goal.merge-requires
merge-requires c = subst AreAllInOrder (sym c.deref_mut.ensures.value) (tables_order _ _ c.in_ok-cursors.ensures)

pub of_table-requires-clause-table : goal.of_table-requires-clause-table
of_table-requires-clause-table c = record {
  order = c.in_ok-table.ensures.order;
  tell = λ word.
      c.in_ok-table.ensures.runs word
      ∙ ap (flat_map (postings_of word)) c.deref_mut.ensures.value
      ∙ tables_runs word c.args.first (map arc_value c.args.segments.now) _ c.requires c.in_ok-cursors.ensures
      ∙ ap (λ pages. run_of c.args.first (meant_counts false word (table_pages pages))) (sym c.in_ok-pages.ensures.pages);
}
