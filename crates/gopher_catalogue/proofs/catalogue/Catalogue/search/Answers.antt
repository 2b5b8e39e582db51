use Rattle.std.proofs.Common.{◌≡◌, subst, IfOk}
use Rattle.gopher_index.specs.Answer.{answer_of}
use Rattle.gopher_catalogue.proofs.FinalAnswers.{final_returned}
use Rattle.gopher_catalogue.proofs.catalogue.Catalogue.search.Goals as goal

pub returns-clause-hits : goal.returns-clause-hits
returns-clause-hits c = subst (λ pages. IfOk c.search.result (λ hits. hits.items ≡ answer_of pages c.args.query.now)) c.index.ensures.pages c.search.ensures

pub returns-clause-complete : goal.returns-clause-complete
returns-clause-complete c = final_returned (λ pages. answer_of pages c.args.query.now) (λ hits. hits.items) c.args.self.now c.search.result (returns-clause-hits c)
