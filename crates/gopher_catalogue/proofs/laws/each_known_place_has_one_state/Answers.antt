use Rattle.gopher_catalogue.proofs.LegalSizes.{one_state}
use Rattle.gopher_catalogue.proofs.laws.each_known_place_has_one_state.Goals as goal

pub returns : goal.returns
returns c opening events number legal = one_state opening events legal number
