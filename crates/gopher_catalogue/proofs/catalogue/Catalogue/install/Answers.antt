use Rattle.std.proofs.Common.{◌∙◌, ap, sym, subst}
use Rattle.gopher_index.specs.Index.{IsSliceOf}
use Rattle.gopher_catalogue.specs.Pages.{pages_found}
use Rattle.gopher_catalogue.proofs.ArchiveLemmas.{all_indexed}
use Rattle.gopher_catalogue.proofs.catalogue.Catalogue.install.Goals as goal

pub install-requires : goal.install-requires
install-requires c =
    subst (IsSliceOf c.args.due) (sym (all_indexed c.self.inside.archive.events c.self.invariant.legal ∙ ap pages_found c.self.view_is)) c.requires
