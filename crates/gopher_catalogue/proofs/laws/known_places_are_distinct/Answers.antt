use Rattle.gopher_catalogue.proofs.KnownPlaces.{known-distinct}
use Rattle.gopher_catalogue.proofs.laws.known_places_are_distinct.Goals as goal

pub returns : goal.returns
returns c = known-distinct
