use Rattle.std.proofs.Common.{◌∙◌, ap, sym, map, take}
use Rattle.std.specs.Arc.{arc_value}
use Rattle.std.specs.Map.{values_of}
use Rattle.std.proofs.lemmas.List.{take-map}
use Rattle.gopher_catalogue.proofs.KnownLemmas.{shown-take}
use Rattle.gopher_catalogue.proofs.frontier.known.KnownPlaces.truncate.Goals as goal

pub invariant_of-self : goal.invariant_of-self
invariant_of-self c = shown-take arc_value c.args.len _ _ _ _ c.truncate.ensures.entries c.truncate-2.ensures.items c.self.invariant

pub returns-clause-places : goal.returns-clause-places
returns-clause-places c =
    ap (map arc_value) c.truncate-2.ensures.items ∙ sym (take-map arc_value c.args.len c.self.inside.places.items) ∙ ap (λ v. take c.args.len v.places) c.self.view_is

pub returns-clause-standings : goal.returns-clause-standings
returns-clause-standings c =
    ap values_of c.truncate.ensures.entries ∙ sym (take-map (λ e. e.1) c.args.len c.self.inside.standings.entries) ∙ ap (λ v. take c.args.len v.standings) c.self.view_is
