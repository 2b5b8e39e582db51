use Rattle.std.proofs.Common.{◌≡◌, ◌*◌, ◌≤◌, take}
use Rattle.gopher_page.specs.Query.{score}
use Rattle.gopher_page.proofs.query.Query.score.Given as goal

abbrev pub invariant-loop-term : goal.invariant-loop-term
invariant-loop-term l = record {
  sum : l.total ≡ score (take l.term-index l.term-items) l.page.counts;
  few : l.total ≤ 4294967296 * l.term-index;
}
