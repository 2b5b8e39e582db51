use Rattle.gopher_catalogue.proofs.LegalSizes.{state_sizes}
use Rattle.gopher_catalogue.proofs.laws.state_sizes_add_up.Goals as goal

pub returns : goal.returns
returns c = state_sizes
