use Rattle.std.proofs.Common.{◌≡◌, ℕ, List, IfSome, None, Some, Option, refl, sym, ap, subst, ◌∙◌, take, arith}
use Rattle.std.proofs.lemmas.Option.{IfSome_then}
use Rattle.std.proofs.lemmas.List.{take_all}
use Rattle.gopher_page.specs.Page.{PageData}
use Rattle.gopher_index.specs.Best.{IsBestOf}
use Rattle.gopher_segment.specs.Segment.{pages_of}
use Rattle.gopher_index.proofs.Segments.{pages-next}
use Rattle.gopher_index.proofs.Taking.{answer_of_none}
use Rattle.gopher_index.proofs.search.best_of.Goals as goal

none_yet : (wanted : Option ℕ) (index : ℕ) → index ≡ 0 → IfSome wanted (λ _. index ≡ 0)
none_yet None index none = tt
none_yet (Some wanted) index none = none

pub loop-part-init : goal.loop-part-init
loop-part-init c = record {
  best = c.in_ok-best.ensures.hits ∙ answer_of_none c.in_ok-best.best.least c.args.query.now;
  first = none_yet c.args.likely 0 refl;
  plain = λ none. (none, c.in_ok-best.ensures.least);
}

pub loop-part-preserved : goal.loop-part-preserved
loop-part-preserved c =
    let pages : ℕ → List PageData = λ index. pages_of (take index c.args.parts.now) in
    record {
      best =
          subst (λ all. IsBestOf c.args.query.now all c.rank_part.new.best) (sym (pages-next c.args.parts.now c.loop-part.part-index c.part-item.result (omega arith) c.part-item.is))
          (c.in_ok-rank_part.ensures.best (pages c.loop-part.part-index) c.loop-part.invariant.best (IfSome_then c.loop-part.wanted c.loop-part.invariant.first (λ _ none. ap pages none)));
      first = tt;
      plain = λ none. (refl, c.in_ok-rank_part.ensures.plain (c.loop-part.invariant.plain none).0 ∙ (c.loop-part.invariant.plain none).1);
    }

pub returns-clause-best : goal.returns-clause-best
returns-clause-best c =
    subst (λ parts. IsBestOf c.args.query.now (pages_of parts) c.loop-part.best) (take_all c.loop-part.part-index c.args.parts.now (omega arith)) c.loop-part.invariant.best

pub returns-clause-plain : goal.returns-clause-plain
returns-clause-plain c = λ none. (c.loop-part.invariant.plain none).1
