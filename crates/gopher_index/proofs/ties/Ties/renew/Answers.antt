use Rattle.std.proofs.Common.{◌≡◌, Some, map, slice_get, sym, ap, ◌∙◌, arith}
use Rattle.std.specs.Arc.{arc_value}
use Rattle.gopher_index.specs.Best.{hit_with, is_beyond}
use Rattle.gopher_index.proofs.TieLemmas.{covered_beyond, page_there}
use Rattle.gopher_index.proofs.ties.Ties.renew.Goals as goal
use Rattle.gopher_index.proofs.ties.Ties.renew.Goals.{then-rejects, else-rejects}

pub returns-clause-ties : goal.returns-clause-ties
returns-clause-ties c =
    let old = c.args.self.now in
    let pages = map arc_value old.pages.now in
    let here : slice_get pages old.tied ≡ Some (arc_value c.index-self-self.result) = page_there arc_value old.pages.now old.tied c.index-self-self.result c.requires.tied c.index-self-self.is in
    record {
      ranks = c.requires.ranks;
      tied = λ some. c.requires.tied;
      beyond = elim c.if-rejects.branch [
        | then-rejects w ↦
            covered_beyond pages old.ranks.now old.tied old.score c.if-rejects.self (arc_value c.index-self-self.result) c.args.best.now c.requires.ranks here
            (λ some. ap (λ page. is_beyond (hit_with old.score (arc_value page)) c.args.best.now) c.index-self-self.is ∙ sym c.rejects.ensures ∙ w.if-rejects.true) (omega (arith, w.self-is, w.saturating_add-self.ensures))
        | else-rejects w ↦
            covered_beyond pages old.ranks.now old.tied old.score c.if-rejects.self (arc_value c.index-self-self.result) c.args.best.now c.requires.ranks here
            (λ some. absurd (omega (arith, some, w.self-is))) (omega (arith, w.self-is))
      ];
    }
