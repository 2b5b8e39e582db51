use Rattle.std.proofs.Common.{◌≡◌, ◌+◌, ◌-◌, ◌<◌, List, Some, map, get_or, min, slice_get, length, sym, ap, subst, ◌∙◌, arith}
use Rattle.std.specs.Arc.{arc_value}
use Rattle.std.proofs.lemmas.List.{length-map}
use Rattle.gopher_page.specs.Page.{PageData}
use Rattle.gopher_page.specs.Query.{count_of_term}
use Rattle.gopher_index.specs.Best.{lowest_score}
use Rattle.gopher_index.specs.ByPostings.{Walk}
use Rattle.gopher_index.specs.Plan.{term_counts}
use Rattle.gopher_index.specs.Ties.{AreTies}
use Rattle.gopher_index.specs.declared.ties.Ties.{Ties}
use Rattle.gopher_index.proofs.Walking.{number_within, page_found, walk_again, walk_below, walk_turn}
use Rattle.gopher_index.proofs.by_postings.insert_postings.Goals as goal
use Rattle.gopher_index.proofs.by_postings.insert_postings.Goals.{then-postings-index+then-not-is_again+in_ok-insert_posting, else-postings-index, else-postings-index-via-then-postings-index+else-not-is_again, else-postings-index-via-else-postings-index}

pub overflow_sub-page : goal.overflow_sub-page
overflow_sub-page c =
    omega (
      arith,
      c.from.ensures,
      (number_within c.args.postings.now.first c.args.postings.now.numbers.now c.args.postings.now.counts.now (term_counts c.args.term.now (map arc_value c.args.ties.now.pages.now)) c.loop-index.index c.requires.beside c.requires.run (omega arith)).0,
    )

pub insert_posting-requires-clause-within : goal.insert_posting-requires-clause-within
insert_posting-requires-clause-within c =
    let same : length c.loop-index.ties.pages.now ≡ length c.args.ties.now.pages.now = λ i. length (c.loop-index.invariant.same i).now in
    omega (
      arith,
      c.from.ensures,
      same,
      (number_within c.args.postings.now.first c.args.postings.now.numbers.now c.args.postings.now.counts.now (term_counts c.args.term.now (map arc_value c.args.ties.now.pages.now)) c.loop-index.index c.requires.beside c.requires.run (omega arith)).0,
      (number_within c.args.postings.now.first c.args.postings.now.numbers.now c.args.postings.now.counts.now (term_counts c.args.term.now (map arc_value c.args.ties.now.pages.now)) c.loop-index.index c.requires.beside c.requires.run (omega arith)).1,
      length-map (map arc_value c.args.ties.now.pages.now) (λ (page : PageData). count_of_term page.counts c.args.term.now),
      length-map c.args.ties.now.pages.now (arc_value {X = PageData}),
    )

pub loop-index-preserved : goal.loop-index-preserved
loop-index-preserved c =
    let pages : List PageData = map arc_value c.args.ties.now.pages.now in
    elim c.if-postings-index.branch [
      | then-postings-index+then-not-is_again+in_ok-insert_posting w ↦
          record {
            same = ap (λ (t : Ties). t.pages) w.ties-is ∙ w.insert_posting.ensures.same ∙ c.loop-index.invariant.same;
            ties =
                subst (λ t. AreTies t c.if-postings-index.best) (sym w.ties-is)
                (subst (λ best. AreTies w.insert_posting.new.ties best) (sym w.best-is) w.in_ok-insert_posting.ensures.ties);
            lowest = w.lowest-is ∙ w.lowest_count-lowest-then-not-is_again.ensures ∙ ap (λ best. min (lowest_score best) 255) (sym w.best-is);
            walk = λ old start.
                let walk = c.loop-index.invariant.walk old start in
                let turn = walk_turn c.args.term.now c.requires.and c.args.postings.now.first pages c.args.postings.now.numbers.now c.args.postings.now.counts.now c.requires.beside old c.loop-index.best c.loop-index.index (omega arith) walk
                (sym w.is_again.ensures ∙ w.if-not-is_again.true) in
                let there : slice_get pages (get_or c.args.postings.now.numbers.now c.loop-index.index 0 - c.args.postings.now.first) ≡ Some turn.page =
                page_found pages turn.before turn.after turn.page (get_or c.args.postings.now.numbers.now c.loop-index.index 0) c.args.postings.now.first turn.whole turn.number in
                let found : slice_get (map arc_value c.loop-index.ties.pages.now) (w.from.result - c.args.postings.now.first) ≡ Some turn.page =
                (λ i. slice_get (map arc_value (c.loop-index.invariant.same i).now) (w.from.ensures i - c.args.postings.now.first)) ∙ there in
                let some : 0 < get_or c.args.postings.now.counts.now c.loop-index.index 0 = omega (arith, turn.count, turn.some) in
                subst (λ best. Walk c.args.term.now c.args.postings.now.first pages c.args.postings.now.numbers.now c.args.postings.now.counts.now old best (c.loop-index.index + 1)) (sym w.best-is)
                (turn.go w.insert_posting.new.best (w.in_ok-insert_posting.ensures.takes turn.page found some turn.count));
          }
      | else-postings-index w ↦
          record {
            same = ap (λ (t : Ties). t.pages) w.ties-is ∙ c.loop-index.invariant.same;
            ties =
                subst (λ t. AreTies t c.if-postings-index.best) (sym w.ties-is)
                (subst (λ best. AreTies c.loop-index.ties best) (sym w.best-is) c.loop-index.invariant.ties);
            lowest = w.lowest-is ∙ c.loop-index.invariant.lowest ∙ ap (λ best. min (lowest_score best) 255) (sym w.best-is);
            walk = λ old start.
                let walk = c.loop-index.invariant.walk old start in
                subst (λ best. Walk c.args.term.now c.args.postings.now.first pages c.args.postings.now.numbers.now c.args.postings.now.counts.now old best (c.loop-index.index + 1)) (sym w.best-is)
                (elim w.else-postings-index.branch [
                  | else-postings-index-via-then-postings-index+else-not-is_again w' ↦
                      walk_again c.args.term.now c.requires.and c.args.postings.now.first pages c.args.postings.now.numbers.now c.args.postings.now.counts.now c.requires.beside old c.loop-index.best c.loop-index.index (omega arith)
                      walk (sym w'.is_again.ensures ∙ w'.if-not-is_again.false)
                  | else-postings-index-via-else-postings-index w' ↦
                      walk_below c.args.term.now c.requires.and c.args.postings.now.first pages c.args.postings.now.numbers.now c.args.postings.now.counts.now c.requires.beside old c.loop-index.best c.loop-index.index (omega arith)
                      (omega (arith, w'.if-postings-index.false, c.loop-index.invariant.lowest)) (omega (arith, w'.if-postings-index.false, c.loop-index.invariant.lowest)) walk
                ]);
          }
    ]
