use Rattle.gopher_catalogue.proofs.OneTry.{one_try-states}
use Rattle.gopher_catalogue.proofs.laws.one_try_has_simple_states.Goals as goal

pub returns : goal.returns
returns c = one_try-states
