use Rattle.std.proofs.Common.{◌≡◌, ◌+◌, ◌-◌, ◌≤◌, ◌<◌, get_or, sym, subst, ◌∙◌, arith}
use Rattle.gopher_index.specs.Best.{lowest_score}
use Rattle.gopher_index.specs.ByPostings.{Walk}
use Rattle.gopher_index.proofs.Walking.{counts_below, walk_block, walk_end, walk_start}
use Rattle.gopher_index.proofs.by_postings.rank_postings.Goals as goal

pub loop-start-init : goal.loop-start-init
loop-start-init c = record {
  within = omega arith;
  pages = c.new-ties.ensures.pages;
  ties = c.new-ties.ensures.ties c.args.best.now;
  walk = walk_start c.args.term.now c.requires.and c.args.postings.now.first c.args.part.now.pages c.args.postings.now.numbers.now c.args.postings.now.counts.now c.requires.beside c.args.best.now c.requires.run;
}

pub loop-start-preserved : goal.loop-start-preserved
loop-start-preserved c =
    let forward : c.loop-start.start + (c.min-end.result - c.loop-start.start) ≡ c.min-end.result = omega arith in
    let low : c.lowest_count.result ≤ lowest_score c.loop-start.best = omega (arith, c.lowest_count.ensures) in
    let small : c.lowest_count.result ≤ 255 = omega (arith, c.lowest_count.ensures) in
    record {
      within = omega arith;
      pages = c.loop-start.invariant.pages;
      ties = c.loop-start.invariant.ties;
      walk =
          subst (λ index. Walk c.args.term.now c.args.postings.now.first c.args.part.now.pages c.args.postings.now.numbers.now c.args.postings.now.counts.now c.args.best.now c.loop-start.best index) forward
          (walk_block c.args.term.now c.requires.and c.args.postings.now.first c.args.part.now.pages c.args.postings.now.numbers.now c.args.postings.now.counts.now c.requires.beside c.args.best.now c.loop-start.best
          c.loop-start.start (c.min-end.result - c.loop-start.start) (omega arith)
          (λ k less.
          let below : get_or c.args.postings.now.counts.now (c.loop-start.start + k) 0 < c.lowest_count.result =
          counts_below c.lowest_count.result c.args.postings.now.counts.now c.loop-start.start (c.min-end.result - c.loop-start.start) (sym c.any_from.ensures ∙ c.if-any_from.false) k less (omega arith) in
          (omega arith, omega arith))
          c.loop-start.invariant.walk);
    }

pub returns : goal.returns
returns c =
    walk_end c.args.term.now c.requires.and c.args.postings.now.first c.args.part.now.pages c.args.postings.now.numbers.now c.args.postings.now.counts.now c.requires.beside c.args.best.now c.loop-start.best
    c.loop-start.start (omega arith) c.loop-start.invariant.walk
