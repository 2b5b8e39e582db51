use Rattle.std.proofs.Common.{subst, IfOk}
use Rattle.gopher_index.specs.Answer.{AreOccurrences, occurrences_of}
use Rattle.gopher_catalogue.proofs.FinalAnswers.{final_returned, occurrences_sorted}
use Rattle.gopher_catalogue.proofs.catalogue.Catalogue.occurrences.Goals as goal

pub returns-clause-occurrences : goal.returns-clause-occurrences
returns-clause-occurrences c =
    occurrences_sorted (λ list. list.items) c.args.self.now c.args.word.now c.occurrences.result c.index.ensures.legal
    (subst (λ pages. IfOk c.occurrences.result (λ list. AreOccurrences pages c.args.word.now list.items)) c.index.ensures.pages c.occurrences.ensures)

pub returns-clause-complete : goal.returns-clause-complete
returns-clause-complete c = final_returned (λ pages. occurrences_of pages c.args.word.now) (λ list. list.items) c.args.self.now c.occurrences.result (returns-clause-occurrences c)
