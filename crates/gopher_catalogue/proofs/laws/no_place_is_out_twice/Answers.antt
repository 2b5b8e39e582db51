use Rattle.gopher_catalogue.proofs.States.{bounds}
use Rattle.gopher_catalogue.proofs.laws.no_place_is_out_twice.Goals as goal

pub returns : goal.returns
returns c opening events number legal = let all = bounds opening events legal number in (all.1, all.0)
