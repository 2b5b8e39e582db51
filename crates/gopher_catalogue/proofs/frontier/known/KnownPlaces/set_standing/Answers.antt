use Rattle.std.proofs.Common.{◌∙◌, ap, map}
use Rattle.std.specs.Arc.{arc_value}
use Rattle.indexmap.proofs.CallerLemmas.{keys-with_value_at}
use Rattle.gopher_catalogue.specs.Tables.{known_with, with_standing}
use Rattle.gopher_catalogue.proofs.KnownLemmas.{values_set_value_at}
use Rattle.gopher_catalogue.proofs.frontier.known.KnownPlaces.set_standing.Goals as goal

pub invariant_of-self : goal.invariant_of-self
invariant_of-self c = ap (map arc_value) (keys-with_value_at c.self.inside.standings c.args.number c.args.standing) ∙ c.self.invariant

pub returns : goal.returns
returns c =
    ap (known_with (map arc_value c.self.inside.places.items)) (values_set_value_at c.self.inside.standings.entries c.args.number c.args.standing)
    ∙ ap (λ v. with_standing v c.args.number c.args.standing) c.self.view_is
