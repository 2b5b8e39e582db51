use Rattle.std.proofs.Common.{◌≡◌, ◌∙◌, ◌∷◌, [], OnOk, sym, ap, subst}
use Rattle.std.specs.Arc.{arc_value}
use Rattle.gopher_catalogue.specs.EventOf.{event_data}
use Rattle.gopher_check.specs.Reach.{AddsPlaces, places_found}
use Rattle.gopher_check.proofs.Sets.{adds_none, found_none, found_one}
use Rattle.gopher_check.proofs.reach.add_found.Goals as goal

pub returns-in-Found : goal.returns-in-Found
returns-in-Found c =
    let page = arc_value c.in-Found.page in
    let place : c.place.result.now ≡ page.place = cc in
    let same : c.place.result.now ∷ [] ≡ places_found (event_data c.args.event.now ∷ []) =
    ap (λ p. p ∷ []) place ∙ sym (found_one c.in-Found.field-0 page) ∙ ap (λ e. places_found (event_data e ∷ [])) (sym c.in-Found.is) in
    subst (λ ps. OnOk c.add_place.result (AddsPlaces ps c.args.set.now c.add_place.new.set)) same c.add_place.ensures

pub returns-in_default : goal.returns-in_default
returns-in_default c =
    subst (λ ps. AddsPlaces ps c.args.set.now c.args.set.now)
    (sym (found_none c.args.event.now c.in_default.not-Found))
    (adds_none c.args.set.now)
