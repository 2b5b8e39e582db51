use Rattle.gopher_catalogue.proofs.FinishedCrawls.{page_once}
use Rattle.gopher_catalogue.proofs.closure.each_page_is_found_once.Goals as goal

pub returns : goal.returns
returns c = page_once
