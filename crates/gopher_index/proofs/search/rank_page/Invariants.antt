use Rattle.std.proofs.Common.{◌≡◌, ◌*◌, ◌≤◌, take}
use Rattle.std.specs.Arc.{arc_value}
use Rattle.gopher_page.specs.Query.{matches, score}
use Rattle.gopher_index.proofs.search.rank_page.Given as goal

abbrev pub invariant-loop-term : goal.invariant-loop-term
invariant-loop-term l = record {
  truth : l.truth ≡ matches (take l.term-index l.term-items) (arc_value l.page).counts;
  sum : l.score ≡ score (take l.term-index l.term-items) (arc_value l.page).counts;
  few : l.score ≤ 4294967296 * l.term-index;
}
