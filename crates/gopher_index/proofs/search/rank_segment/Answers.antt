use Rattle.std.proofs.Common.{OnOk, length, map, sym, ap, subst, arith}
use Rattle.gopher_index.specs.Best.{TakesIn}
use Rattle.gopher_index.specs.Plan.{AreCells, is_match}
use Rattle.std.proofs.lemmas.Result.{on_ok_weaker}
use Rattle.gopher_index.proofs.GroupCells.{groups_cells, whole_groups}
use Rattle.gopher_index.proofs.PostingLemmas.{alone_is}
use Rattle.gopher_index.proofs.Taking.{guessed}
use Rattle.gopher_index.proofs.search.rank_segment.Goals as goal

pub returns-in-Some-clause-best : goal.returns-in-Some-clause-best
returns-in-Some-clause-best c = λ before best first.
    let terms = c.args.terms.now in
    let raised = c.raise_least.new.self in
    on_ok_weaker c.rank_postings.result
    (λ takes. takes.answers before (guessed c.args.wanted c.likely_count.result terms before c.args.best.now raised c.likely_count.ensures c.raise_least.ensures.least c.raise_least.ensures.hits best first))
    (subst (λ l. OnOk c.rank_postings.result (TakesIn l c.args.part.now.pages raised c.rank_postings.new.best)) (sym (alone_is c.args.terms.now c.index-terms-0.result (ap length c.in-Some.ensures.alone) c.index-terms-0.is)) c.rank_postings.ensures)

pub returns-clause-best : goal.returns-clause-best
returns-clause-best c = λ before best first.
    let terms = c.args.terms.now in
    let raised = c.raise_least-2.new.self in
    let cells : AreCells terms c.args.part.now.pages (map is_match c.deref-3.result.now) c.deref-4.result.now =
    groups_cells terms c.args.groups.now c.args.part.now.pages _ c.deref-3.result.now _ c.deref-4.result.now c.requires.groups_are (whole_groups c.args.groups.now c.args.part.now.pages c.join_to.new.self c.in_ok-join_to.ensures.cells c.in_ok-join_to.ensures.joined) c.deref-3.ensures.value c.deref-4.ensures.value in
    on_ok_weaker c.rank_cells.result
    (λ takes. takes.answers before (guessed c.args.wanted c.likely_score.result terms before c.args.best.now raised c.likely_score.ensures c.raise_least-2.ensures.least c.raise_least-2.ensures.hits best first))
    (c.rank_cells.ensures terms cells)

pub returns-clause-plain : goal.returns-clause-plain
returns-clause-plain c = λ none.
    on_ok_weaker c.rank_cells.result (λ takes. omega (arith, takes.least, c.raise_least-2.ensures.least, c.likely_score.ensures none))
    (c.rank_cells.ensures c.args.terms.now
    (groups_cells c.args.terms.now c.args.groups.now c.args.part.now.pages _ c.deref-3.result.now _ c.deref-4.result.now c.requires.groups_are (whole_groups c.args.groups.now c.args.part.now.pages c.join_to.new.self c.in_ok-join_to.ensures.cells c.in_ok-join_to.ensures.joined) c.deref-3.ensures.value c.deref-4.ensures.value))
