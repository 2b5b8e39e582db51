use Rattle.std.proofs.Common.{◌≡◌, ◌∙◌, sym, subst, IfOk}
use Rattle.gopher_index.specs.Answer.{answer_of}
use Rattle.gopher_catalogue.specs.Legal.{IsLegal}
use Rattle.gopher_catalogue.specs.Pages.{pages_found}
use Rattle.gopher_catalogue.proofs.ArchiveLemmas.{all_indexed}
use Rattle.gopher_catalogue.proofs.book.Book.search.Goals as goal

pub returns : goal.returns
returns c legal =
    let events = c.self.inside.archive.events in
    let pages = c.index.ensures ∙ all_indexed events (subst IsLegal (sym c.self.view_is) legal) in
    subst (λ events. IfOk c.search.result (λ hits. hits.items ≡ answer_of (pages_found events) c.args.query.now)) c.self.view_is
    (subst (λ pages. IfOk c.search.result (λ hits. hits.items ≡ answer_of pages c.args.query.now)) pages c.search.ensures)
