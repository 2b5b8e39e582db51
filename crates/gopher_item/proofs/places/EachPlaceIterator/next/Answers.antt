use Rattle.std.proofs.Common.{◌∷◌, ◌+◌, drop, ap, sym, ◌∙◌}
use Rattle.std.specs.ControlFlow.{continue_value}
use Rattle.gopher_item.specs.Places.{places_lent}
use Rattle.gopher_item.proofs.PackedPlaces.{drop_at}
use Rattle.gopher_item.proofs.places.EachPlaceIterator.next.Goals as goal

pub returns-clause-steps : goal.returns-clause-steps
returns-clause-steps c =
    let i = c.self.inside.next in
    let is = c.branch-places.ensures ∙ ap continue_value c.in_ok-places.is in
    sym c.self.view_is ∙ ap (λ places. drop i (places_lent places)) is
    ∙ drop_at c.in_ok-places.places.now i _ c.get-parts.ensures
    ∙ ap (λ places. c.get-parts.result ∷ drop (i + 1) (places_lent places)) (sym is)
