use Rattle.gopher_catalogue.proofs.FinishedCrawls.{one_try_agrees}
use Rattle.gopher_catalogue.proofs.closure.one_try_agrees_throughout.Goals as goal

pub returns : goal.returns
returns c = one_try_agrees
