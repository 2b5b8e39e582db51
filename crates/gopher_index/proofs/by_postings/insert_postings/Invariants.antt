use Rattle.std.proofs.Common.{◌≡◌, map, min}
use Rattle.std.specs.Arc.{arc_value}
use Rattle.gopher_index.specs.Best.{BestData, lowest_score}
use Rattle.gopher_index.specs.ByPostings.{Walk}
use Rattle.gopher_index.specs.Ties.{AreTies}
use Rattle.gopher_index.proofs.by_postings.insert_postings.Given as goal

abbrev pub invariant-loop-index : goal.invariant-loop-index
invariant-loop-index l = record {
  same : l.ties.pages ≡ l.initial.ties.pages;
  ties : AreTies l.ties l.best;
  lowest : l.lowest ≡ min (lowest_score l.best) 255;
  walk : (old : BestData) → Walk l.term l.postings.first (map arc_value l.initial.ties.pages.now) l.postings.numbers.now l.postings.counts.now old l.initial.best l.start
      → Walk l.term l.postings.first (map arc_value l.initial.ties.pages.now) l.postings.numbers.now l.postings.counts.now old l.best l.index;
}
