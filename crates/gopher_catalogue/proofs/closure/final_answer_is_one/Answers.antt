use Rattle.gopher_catalogue.proofs.PageLists.{answers_same}
use Rattle.gopher_catalogue.proofs.FinalAnswers.{final_one}
use Rattle.gopher_catalogue.proofs.closure.final_answer_is_one.Goals as goal

pub returns : goal.returns
returns c = λ scope seeds table query. final_one (answers_same query) scope seeds table
