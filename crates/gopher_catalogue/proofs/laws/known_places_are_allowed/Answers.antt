use Rattle.gopher_catalogue.proofs.KnownPlaces.{known-allowed}
use Rattle.gopher_catalogue.proofs.laws.known_places_are_allowed.Goals as goal

pub returns : goal.returns
returns c = known-allowed
