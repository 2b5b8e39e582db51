use Rattle.std.proofs.Common.{◌∙◌, sym, ap, subst, IfOk}
use Rattle.gopher_index.specs.Answer.{AreOccurrences}
use Rattle.gopher_catalogue.specs.Legal.{IsLegal}
use Rattle.gopher_catalogue.specs.Pages.{pages_found}
use Rattle.gopher_catalogue.proofs.ArchiveLemmas.{all_indexed}
use Rattle.gopher_catalogue.proofs.FinalAnswers.{occurrences_sorted}
use Rattle.gopher_catalogue.proofs.book.Book.occurrences.Goals as goal

pub returns : goal.returns
returns c legal =
    let events = c.self.inside.archive.events in
    let pages = c.index.ensures ∙ all_indexed events (subst IsLegal (sym c.self.view_is) legal) ∙ ap pages_found c.self.view_is in
    occurrences_sorted (λ list. list.items) c.args.self.now c.args.word.now c.occurrences.result legal
    (subst (λ pages. IfOk c.occurrences.result (λ list. AreOccurrences pages c.args.word.now list.items)) pages c.occurrences.ensures)
