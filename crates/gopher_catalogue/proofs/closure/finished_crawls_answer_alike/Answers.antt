use Rattle.gopher_catalogue.proofs.FinalAnswers.{answer_alike}
use Rattle.gopher_catalogue.proofs.closure.finished_crawls_answer_alike.Goals as goal

pub returns : goal.returns
returns c = answer_alike
