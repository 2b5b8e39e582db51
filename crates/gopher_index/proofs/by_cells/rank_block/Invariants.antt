use Rattle.std.proofs.Common.{◌≡◌, List, map, take}
use Rattle.std.specs.Arc.{arc_value}
use Rattle.gopher_page.specs.Query.{TermData}
use Rattle.gopher_index.specs.Best.{lowest_score, BestData, TakesIn}
use Rattle.gopher_index.specs.Plan.{AreCells, is_match}
use Rattle.gopher_index.specs.Ties.{AreTies}
use Rattle.gopher_index.proofs.by_cells.rank_block.Given as goal

abbrev pub invariant-loop-index : goal.invariant-loop-index
invariant-loop-index l =
    record {
      same : l.ties.pages ≡ l.initial.ties.pages;
      ties : AreTies l.ties l.best;
      lowest : l.lowest ≡ lowest_score l.best;
      taken : (terms : List TermData) (old : BestData) → AreCells terms (map arc_value l.initial.ties.pages.now) (map is_match l.verdicts) l.scores → TakesIn terms (take l.start (map arc_value l.initial.ties.pages.now)) old l.initial.best
          → TakesIn terms (take l.index (map arc_value l.initial.ties.pages.now)) old l.best;
    }
