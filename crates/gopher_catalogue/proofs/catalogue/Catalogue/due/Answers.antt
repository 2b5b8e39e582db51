use Rattle.std.proofs.Common.{◌∙◌, ap, subst, IfOk, IfSome}
use Rattle.gopher_index.specs.Index.{IsSliceOf}
use Rattle.gopher_catalogue.specs.Pages.{pages_found}
use Rattle.gopher_catalogue.proofs.ArchiveLemmas.{all_indexed}
use Rattle.gopher_catalogue.proofs.catalogue.Catalogue.due.Goals as goal

pub returns-clause-stands : goal.returns-clause-stands
returns-clause-stands c =
    subst (λ pages. IfOk c.due.result (λ due. IfSome due (λ run. IsSliceOf run pages)))
    (all_indexed c.self.inside.archive.events c.self.invariant.legal ∙ ap pages_found c.self.view_is) c.due.ensures.stands
