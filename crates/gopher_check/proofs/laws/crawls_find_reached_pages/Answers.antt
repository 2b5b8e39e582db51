use Rattle.gopher_check.proofs.UnderWay.{finds_reached}
use Rattle.gopher_check.proofs.laws.crawls_find_reached_pages.Goals as goal

pub returns : goal.returns
returns c = finds_reached
