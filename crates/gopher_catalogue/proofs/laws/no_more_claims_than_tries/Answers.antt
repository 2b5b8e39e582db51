use Rattle.gopher_catalogue.proofs.States.{bounds}
use Rattle.gopher_catalogue.proofs.laws.no_more_claims_than_tries.Goals as goal

pub returns : goal.returns
returns c opening events number legal = let all = bounds opening events legal number in (all.2, all.3)
