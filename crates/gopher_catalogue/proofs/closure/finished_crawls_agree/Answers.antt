use Rattle.gopher_catalogue.proofs.FinishedCrawls.{crawls_agree}
use Rattle.gopher_catalogue.proofs.closure.finished_crawls_agree.Goals as goal

pub returns : goal.returns
returns c = crawls_agree
