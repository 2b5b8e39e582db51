use Rattle.std.proofs.Common.{◌≡◌, ◌<◌, ◌≤◌, length, get_or, map, take, refl, sym, ap, ◌∙◌, arith}
use Rattle.std.proofs.lemmas.List.{length-map, take_all}
use Rattle.gopher_index.specs.Best.{answer_from, kept_hit}
use Rattle.gopher_index.specs.Plan.{AreCells, is_match}
use Rattle.gopher_index.specs.Searching.{IsSearching}
use Rattle.gopher_index.specs.declared.searching.Search.TheInside.{Inside}
use Rattle.gopher_index.proofs.GroupCells.{groups_cells, whole_groups}
use Rattle.gopher_index.proofs.LeastLemmas.{answer_from_0}
use Rattle.gopher_index.proofs.Segments.{pages-next}
use Rattle.gopher_index.proofs.searching.Search.step.Goals as goal
use Rattle.gopher_segment.specs.Segment.{SegmentData, pages_of}

pub returns-then-self-len-clause-found : goal.returns-then-self-len-clause-found
returns-then-self-len-clause-found c =
    let search = c.self.inside in
    let terms = search.terms.items in
    c.in_ok-hits_of.ensures ∙ ap (map kept_hit) c.deref-then-self-len.ensures.value ∙ c.self.invariant.best
    ∙ ap (λ parts. answer_from 0 (pages_of parts) terms) (take_all search.done search.parts.items (omega (arith, c.if-self-len.true, c.len.ensures)))
    ∙ answer_from_0 (pages_of search.parts.items) terms ∙ ap (λ seen. seen.hits) c.self.view_is

-- the cells of the part once all groups are joined
cells_of_part : (search : Inside) (part : SegmentData) → IsSearching search → 0 < length search.groups.items → length search.groups.items ≤ search.joined.groups → part ≡ get_or search.parts.items search.done part
    → AreCells search.terms.items part.pages (map is_match search.joined.verdicts.items) search.joined.scores.items
cells_of_part search part is some all here =
    groups_cells search.terms.items search.groups.items part.pages search.joined.verdicts.items _ search.joined.scores.items _ (is.plan some).groups_are
    (whole_groups search.groups.items part.pages search.joined (is.under_way part here (omega (arith, all, some))) (omega (arith, all, is.groups_within))) refl refl

pub kept_with_cells-requires : goal.kept_with_cells-requires
kept_with_cells-requires c =
    let cells = cells_of_part c.self.inside c.index-part.result.now c.self.invariant (grind (arith, c.if-is_empty.false, c.is_empty.ensures)) (omega (arith, c.if-self-len-2.false, c.len-2.ensures)) c.index-part.ensures in
    record { verdicts = sym (length-map c.self.inside.joined.verdicts.items is_match) ∙ ap length cells.matching ∙ length-map _ _; scores = ap length cells.scoring ∙ length-map _ _ }

pub invariant_of-self-2 : goal.invariant_of-self-2
invariant_of-self-2 c =
    let old = c.self.inside in
    let part = c.index-part.result.now in
    let ahead : old.done < length old.parts.items = omega (arith, c.if-self-len.false, c.len.ensures, c.self.invariant.within) in
    record {
      query = c.self.invariant.query;
      plan = c.self.invariant.plan;
      within = omega (arith, ahead);
      groups_within = omega arith;
      at_rest = λ end. refl;
      under_way = λ part at more. absurd (omega (arith, more));
      best =
          c.in_ok-self-inside-2.ensures old.terms.items (cells_of_part old part c.self.invariant (grind (arith, c.if-is_empty.false, c.is_empty.ensures)) (omega (arith, c.if-self-len-2.false, c.len-2.ensures)) c.index-part.ensures)
          (pages_of (take old.done old.parts.items)) (ap (map kept_hit) c.deref-2.ensures.value ∙ c.self.invariant.best)
          ∙ ap (λ pages. answer_from 0 pages old.terms.items) (sym (pages-next old.parts.items old.done part ahead c.index-part.ensures));
    }
