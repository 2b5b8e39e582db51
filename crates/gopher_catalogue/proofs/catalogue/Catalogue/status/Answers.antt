use Rattle.std.proofs.Common.{ap, ◌∙◌}
use Rattle.gopher_catalogue.specs.Step.{status_of}
use Rattle.gopher_catalogue.proofs.IndexedCalls.{status_shown}
use Rattle.gopher_catalogue.proofs.catalogue.Catalogue.status.Goals as goal

pub returns-clause-status : goal.returns-clause-status
returns-clause-status c = c.status.ensures ∙ status_shown c.self.inside.archive c.self.inside.frontier c.self.invariant ∙ ap status_of c.self.view_is
