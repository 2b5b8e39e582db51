use Rattle.std.proofs.Common.{◌∙◌, ap}
use Rattle.gopher_catalogue.specs.Pages.{pages_found}
use Rattle.gopher_catalogue.proofs.ArchiveLemmas.{all_indexed}
use Rattle.gopher_catalogue.proofs.catalogue.Catalogue.index.Goals as goal

pub returns-clause-pages : goal.returns-clause-pages
returns-clause-pages c = c.index.ensures ∙ all_indexed c.self.inside.archive.events c.self.invariant.legal ∙ ap pages_found c.self.view_is
