use Rattle.std.proofs.Common.{◌≡◌, ◌+◌, ◌<◌, Some, List, [], ◌∷◌, length, map, take, get_or, slice_get, refl, sym, ap, subst, ◌∙◌, arith}
use Rattle.std.proofs.lemmas.List.{length-map}
use Rattle.std.specs.Arc.{arc_value}
use Rattle.gopher_page.specs.Page.{PageData}
use Rattle.gopher_page.specs.Query.{matches, score}
use Rattle.gopher_index.specs.Best.{lowest_score, TakesIn}
use Rattle.gopher_index.specs.Plan.{is_match}
use Rattle.gopher_index.specs.Ties.{AreTies}
use Rattle.gopher_index.specs.declared.ties.Ties.{Ties}
use Rattle.gopher_index.proofs.Taking.{takes_both, takes_below, takes_scored, takes_unmatched}
use Rattle.gopher_index.proofs.TieLemmas.{page_here, read_at, truth_at}
use Rattle.gopher_index.proofs.by_cells.rank_block.Goals as goal
use Rattle.gopher_index.proofs.by_cells.rank_block.Goals.{then-score-lowest+then-is_match+in_ok-insert, else-score-lowest, else-score-lowest-via-else-score-lowest, else-score-lowest-via-then-score-lowest+else-is_match}

pub loop-index-preserved : goal.loop-index-preserved
loop-index-preserved c =
    let index = c.loop-index.index in
    let pages : List PageData = map arc_value c.args.ties.now.pages.now in
    let inside : index < length pages = omega (arith, c.requires.within, c.loop-index-test.true, length-map c.args.ties.now.pages.now (arc_value {X = PageData})) in
    let here = page_here pages index inside in
    elim c.if-score-lowest.branch [
      | then-score-lowest+then-is_match+in_ok-insert w ↦
          let found : slice_get (map arc_value c.loop-index.ties.pages.now) index ≡ Some here.page = (λ i. slice_get (map arc_value (c.loop-index.invariant.same i).now) index) ∙ here.there in
          let takes = w.in_ok-insert.ensures.takes here.page found in
          record {
            same = ap (λ (t : Ties). t.pages) w.ties-is ∙ w.insert.ensures.same ∙ c.loop-index.invariant.same;
            ties = subst (λ t. AreTies t c.if-score-lowest.best) (sym w.ties-is) (subst (λ best. AreTies w.insert.new.self best) (sym w.best-is) w.in_ok-insert.ensures.ties);
            lowest = w.lowest-is ∙ w.lowest_score-lowest-then-is_match.ensures ∙ ap lowest_score (sym w.best-is);
            taken = λ terms old cells start.
                let truth : is_match (get_or c.args.verdicts.now index 0) ≡ matches terms here.page.counts = truth_at terms pages c.args.verdicts.now index here.page here.there cells.matching in
                let scored : get_or c.args.scores.now index 0 ≡ score terms here.page.counts = read_at (λ (p : PageData). score terms p.counts) pages c.args.scores.now index here.page 0 here.there cells.scoring in
                subst (λ best. TakesIn terms (take (index + 1) pages) old best) (sym w.best-is)
                (subst (λ l. TakesIn terms l old w.insert.new.best) (sym here.next)
                (takes_both terms (take index pages) (here.page ∷ []) old c.loop-index.best w.insert.new.best (c.loop-index.invariant.taken terms old cells start)
                (takes_scored terms here.page here.page w.is_match.result c.from-score.result c.loop-index.best w.insert.new.best refl (w.is_match.ensures ∙ truth) w.if-is_match.true (c.from-score.ensures ∙ scored) takes.least takes.hits)));
          }
      | else-score-lowest w ↦
          record {
            same = ap (λ (t : Ties). t.pages) w.ties-is ∙ c.loop-index.invariant.same;
            ties = subst (λ t. AreTies t c.if-score-lowest.best) (sym w.ties-is) (subst (λ best. AreTies c.loop-index.ties best) (sym w.best-is) c.loop-index.invariant.ties);
            lowest = w.lowest-is ∙ c.loop-index.invariant.lowest ∙ ap lowest_score (sym w.best-is);
            taken = λ terms old cells start.
                let truth : is_match (get_or c.args.verdicts.now index 0) ≡ matches terms here.page.counts = truth_at terms pages c.args.verdicts.now index here.page here.there cells.matching in
                let scored : get_or c.args.scores.now index 0 ≡ score terms here.page.counts = read_at (λ (p : PageData). score terms p.counts) pages c.args.scores.now index here.page 0 here.there cells.scoring in
                subst (λ best. TakesIn terms (take (index + 1) pages) old best) (sym w.best-is)
                (subst (λ l. TakesIn terms l old c.loop-index.best) (sym here.next)
                (takes_both terms (take index pages) (here.page ∷ []) old c.loop-index.best c.loop-index.best (c.loop-index.invariant.taken terms old cells start)
                (elim w.else-score-lowest.branch [
                  | else-score-lowest-via-else-score-lowest v ↦ takes_below terms here.page c.loop-index.best (omega (arith, v.if-score-lowest.false, c.loop-index.invariant.lowest, c.from-score.ensures, scored))
                  | else-score-lowest-via-then-score-lowest+else-is_match v ↦ takes_unmatched terms here.page c.loop-index.best (sym truth ∙ sym v.is_match.ensures ∙ v.if-is_match.false)
                ])));
          }
    ]

pub returns-clause-takes : goal.returns-clause-takes
returns-clause-takes c = λ terms old cells start.
    let last : c.loop-index.index ≡ c.args.end = omega (arith, c.loop-index-test.false, c.loop-index.auto.index-end c.requires.forward) in
    subst (λ n. TakesIn terms (take n (map arc_value c.args.ties.now.pages.now)) old c.loop-index.best) last (c.loop-index.invariant.taken terms old cells start)
