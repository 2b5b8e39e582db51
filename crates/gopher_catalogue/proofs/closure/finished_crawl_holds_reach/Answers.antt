use Rattle.gopher_catalogue.proofs.Reach.{holds_reach}
use Rattle.gopher_catalogue.proofs.closure.finished_crawl_holds_reach.Goals as goal

pub returns : goal.returns
returns c = holds_reach
