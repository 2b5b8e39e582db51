use Rattle.std.proofs.Common.{◌-◌, ◌≤◌, map, take, drop, sym, subst, ◌∙◌, arith}
use Rattle.std.specs.Arc.{arc_value}
use Rattle.gopher_index.specs.Best.{lowest_score, TakesIn}
use Rattle.gopher_index.specs.Plan.{AreCells, is_match}
use Rattle.gopher_index.proofs.Blocks.{passes_block, span_cells, span_next}
use Rattle.gopher_index.proofs.Taking.{takes_both, takes_none}
use Rattle.gopher_index.proofs.by_cells.rank_cells.Goals as goal

pub loop-start-init : goal.loop-start-init
loop-start-init c = record {
  within = omega arith;
  pages = c.new-ties.ensures.pages;
  ties = c.new-ties.ensures.ties c.args.best.now;
  taken = λ terms cells. takes_none terms c.args.best.now;
}

pub loop-start-preserved-in_ok-rank_block : goal.loop-start-preserved-in_ok-rank_block
loop-start-preserved-in_ok-rank_block c =
    record {
      within = omega arith;
      pages = (λ i. map arc_value (c.rank_block.ensures.same i).now) ∙ c.loop-start.invariant.pages;
      ties = c.in_ok-rank_block.ensures.ties;
      taken = λ terms cells.
          subst (λ l. TakesIn terms (take c.min-end.result l) c.args.best.now c.rank_block.new.best) c.loop-start.invariant.pages
          (c.in_ok-rank_block.ensures.takes terms c.args.best.now (subst (λ l. AreCells terms l (map is_match c.args.verdicts.now) c.args.scores.now) (sym c.loop-start.invariant.pages) cells)
          (subst (λ l. TakesIn terms (take c.loop-start.start l) c.args.best.now c.loop-start.best) (sym c.loop-start.invariant.pages) (c.loop-start.invariant.taken terms cells)));
    }

pub loop-start-preserved : goal.loop-start-preserved
loop-start-preserved c =
    let pages = c.args.part.now.pages in
    let size = c.min-end.result - c.loop-start.start in
    let forward : c.loop-start.start ≤ c.min-end.result = omega arith in
    let low : c.min-lowest.result ≤ lowest_score c.loop-start.best = omega (arith, c.min-lowest.ensures, c.lowest_score.ensures) in
    record {
      within = omega arith;
      pages = c.loop-start.invariant.pages;
      ties = c.loop-start.invariant.ties;
      taken = λ terms cells.
          subst (λ l. TakesIn terms l c.args.best.now c.loop-start.best) (sym (span_next pages c.loop-start.start c.min-end.result forward))
          (takes_both terms (take c.loop-start.start pages) (take size (drop c.loop-start.start pages)) c.args.best.now c.loop-start.best c.loop-start.best
          (c.loop-start.invariant.taken terms cells)
          (passes_block terms c.loop-start.best c.min-lowest.result low (take size (drop c.loop-start.start pages)) (take size (drop c.loop-start.start (map is_match c.args.verdicts.now))) (take size (drop c.loop-start.start c.args.scores.now))
          (span_cells terms pages (map is_match c.args.verdicts.now) c.args.scores.now c.loop-start.start size cells) (sym c.any_reaches.ensures ∙ c.if-any_reaches.false)));
    }
