use Rattle.std.proofs.Common.{◌∙◌, ap}
use Rattle.std.specs.Arc.{arc_value}
use Rattle.gopher_item.specs.Place.{same_place}
use Rattle.gopher_catalogue.proofs.KnownLemmas.{lookup-shown}
use Rattle.gopher_catalogue.proofs.frontier.known.KnownPlaces.contains.Goals as goal

pub returns : goal.returns
returns c =
    c.contains_key.ensures ∙ lookup-shown arc_value (same_place (arc_value c.args.place.now)) c.self.inside.standings.entries c.args.self.now.places (c.self.invariant ∙ ap (λ v. v.places) c.self.view_is)
