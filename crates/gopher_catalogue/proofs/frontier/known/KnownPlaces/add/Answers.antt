use Rattle.std.proofs.Common.{◌≡◌, ◌∙◌, ◌∷◌, [], ◌++◌, false, ap, sym}
use Rattle.std.specs.Arc.{arc_value}
use Rattle.std.specs.Map.{values_of}
use Rattle.std.proofs.lemmas.List.{map-append}
use Rattle.gopher_item.specs.Place.{same_place, is_among}
use Rattle.gopher_catalogue.specs.Tables.{unclaimed}
use Rattle.gopher_catalogue.proofs.KnownLemmas.{insert-unshown, shown-push}
use Rattle.gopher_catalogue.proofs.frontier.known.KnownPlaces.add.Goals as goal

pub invariant_of-self-2 : goal.invariant_of-self-2
invariant_of-self-2 c =
    let absent : is_among c.args.self.now.places (arc_value c.in_ok-clone.field-0) ≡ false = ap (is_among c.args.self.now.places) c.in_ok-clone.ensures.cases ∙ c.requires in
    let pushed = insert-unshown arc_value same_place c.self.inside.standings c.args.self.now.places c.in_ok-clone.field-0 unclaimed (c.self.invariant ∙ ap (λ v. v.places) c.self.view_is) absent in
    shown-push arc_value _ _ _ _ c.in_ok-clone.field-0 c.in_ok-listed.listed unclaimed (c.in_ok-insert.ensures.entries ∙ pushed) (c.push_reserved.ensures.items ∙ ap (λ l. l ++ c.in_ok-listed.listed ∷ []) c.reserve.ensures.items)
    (c.in_ok-clone.ensures.cases ∙ sym c.in_ok-listed.ensures.cases) c.self.invariant

pub returns-clause-states : goal.returns-clause-states
returns-clause-states c =
    let absent : is_among c.args.self.now.places (arc_value c.in_ok-clone.field-0) ≡ false = ap (is_among c.args.self.now.places) c.in_ok-clone.ensures.cases ∙ c.requires in
    let pushed = insert-unshown arc_value same_place c.self.inside.standings c.args.self.now.places c.in_ok-clone.field-0 unclaimed (c.self.invariant ∙ ap (λ v. v.places) c.self.view_is) absent in
    ap values_of (c.in_ok-insert.ensures.entries ∙ pushed) ∙ map-append (λ e. e.1) c.self.inside.standings.entries ((c.in_ok-clone.field-0, unclaimed) ∷ []) ∙ ap (λ v. v.standings ++ unclaimed ∷ []) c.self.view_is
