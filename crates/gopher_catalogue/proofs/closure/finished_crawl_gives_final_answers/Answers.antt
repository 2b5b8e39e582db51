use Rattle.gopher_catalogue.proofs.FinalAnswers.{record_final_answer}
use Rattle.gopher_catalogue.proofs.closure.finished_crawl_gives_final_answers.Goals as goal

pub returns : goal.returns
returns c = record_final_answer
