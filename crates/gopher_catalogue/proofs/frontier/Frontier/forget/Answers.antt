use Rattle.std.proofs.Common.{◌-◌, take, sym, ◌∙◌, ap, subst}
use Rattle.gopher_catalogue.specs.Tables.{known_with}
use Rattle.gopher_catalogue.specs.FrontierTables.{IsConsistent, frontier_with}
use Rattle.gopher_catalogue.proofs.Consistent.{forgotten}
use Rattle.gopher_catalogue.proofs.frontier.Frontier.forget.Goals as goal

pub invariant_of-self : goal.invariant_of-self
invariant_of-self c =
    let places = c.truncate.ensures.places ∙ ap (λ k. take (k - c.self.inside.fresh) c.self.inside.known.places) c.len.ensures.places in
    let standings = c.truncate.ensures.standings ∙ ap (λ k. take (k - c.self.inside.fresh) c.self.inside.known.standings) c.len.ensures.places in
    subst (λ f. IsConsistent f c.self.inside.queue.room)
    (λ i. frontier_with c.self.inside.limit c.self.inside.tries (known_with (sym places i) (sym standings i)) 0 c.self.inside.queue.waiting c.self.inside.out c.self.inside.done c.self.inside.dropped) (forgotten _ _ c.self.invariant)
