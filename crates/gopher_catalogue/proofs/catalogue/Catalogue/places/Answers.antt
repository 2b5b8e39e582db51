use Rattle.std.proofs.Common.{ap, ◌∙◌}
use Rattle.gopher_catalogue.specs.Step.{places_of}
use Rattle.gopher_catalogue.proofs.FinalAnswers.{record_reach}
use Rattle.gopher_catalogue.proofs.IndexedCalls.{places_shown}
use Rattle.gopher_catalogue.proofs.catalogue.Catalogue.places.Goals as goal

pub returns-clause-places : goal.returns-clause-places
returns-clause-places c = c.places.ensures ∙ places_shown c.self.inside.archive c.self.inside.frontier c.self.invariant ∙ ap places_of c.self.view_is

pub returns-clause-reach : goal.returns-clause-reach
returns-clause-reach c = record_reach c.args.self.now
