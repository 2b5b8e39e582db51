use Rattle.std.specs.Option.{option_copied}
use Rattle.gopher_segment.specs.Rows.{NoneLower}
use Rattle.gopher_segment.proofs.NumberLemmas.{IsFirstAt}
use Rattle.gopher_segment.proofs.merging.lowest_word.Given as goal

abbrev pub invariant-loop-index : goal.invariant-loop-index
invariant-loop-index l = record {
  none : NoneLower (option_copied l.lowest) l.index l.cursors;
  here : IsFirstAt (option_copied l.lowest) l.first l.cursors;
}
