use Rattle.std.proofs.Common.{◌≡◌, ◌-◌, ◌≤◌, length, map}
use Rattle.std.specs.Arc.{arc_value}
use Rattle.gopher_index.specs.ByPostings.{Walk}
use Rattle.gopher_index.specs.Ties.{AreTies}
use Rattle.gopher_index.proofs.by_postings.rank_postings.Given as goal

abbrev pub invariant-loop-start : goal.invariant-loop-start
invariant-loop-start l =
    record {
      within : l.start ≤ length l.postings.numbers.now;
      pages : map arc_value l.ties.pages.now ≡ l.part.pages;
      ties : AreTies l.ties l.best;
      walk : Walk l.term l.postings.first l.part.pages l.postings.numbers.now l.postings.counts.now l.initial.best l.best l.start;
    }

abbrev pub decreases-loop-start : goal.decreases-loop-start
decreases-loop-start l = length l.postings.numbers.now - l.start
