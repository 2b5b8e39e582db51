use Rattle.std.proofs.Common.{◌≡◌, ◌-◌, ◌≤◌, List, length, map, take}
use Rattle.std.specs.Arc.{arc_value}
use Rattle.gopher_page.specs.Query.{TermData}
use Rattle.gopher_index.specs.Best.{TakesIn}
use Rattle.gopher_index.specs.Plan.{AreCells, is_match}
use Rattle.gopher_index.specs.Ties.{AreTies}
use Rattle.gopher_index.proofs.by_cells.rank_cells.Given as goal

abbrev pub invariant-loop-start : goal.invariant-loop-start
invariant-loop-start l =
    record {
      within : l.start ≤ length l.scores;
      pages : map arc_value l.ties.pages.now ≡ l.part.pages;
      ties : AreTies l.ties l.best;
      taken : (terms : List TermData) → AreCells terms l.part.pages (map is_match l.verdicts) l.scores → TakesIn terms (take l.start l.part.pages) l.initial.best l.best;
    }

abbrev pub decreases-loop-start : goal.decreases-loop-start
decreases-loop-start l = length l.scores - l.start
