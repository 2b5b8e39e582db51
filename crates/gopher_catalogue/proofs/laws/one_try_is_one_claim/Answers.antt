use Rattle.std.proofs.Common.{arith}
use Rattle.gopher_catalogue.proofs.States.{bounds}
use Rattle.gopher_catalogue.proofs.laws.one_try_is_one_claim.Goals as goal

pub returns : goal.returns
returns c opening events number legal one = omega (arith, (bounds opening events legal number).3)
