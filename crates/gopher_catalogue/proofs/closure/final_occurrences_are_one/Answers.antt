use Rattle.gopher_catalogue.proofs.PageLists.{occurrences_same}
use Rattle.gopher_catalogue.proofs.FinalAnswers.{final_one}
use Rattle.gopher_catalogue.proofs.closure.final_occurrences_are_one.Goals as goal

pub returns : goal.returns
returns c = λ scope seeds table word. final_one (occurrences_same word) scope seeds table
