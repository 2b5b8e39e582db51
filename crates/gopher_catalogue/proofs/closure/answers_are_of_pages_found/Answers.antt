use Rattle.gopher_catalogue.proofs.FinalAnswers.{record_answers}
use Rattle.gopher_catalogue.proofs.closure.answers_are_of_pages_found.Goals as goal

pub returns : goal.returns
returns c = record_answers
