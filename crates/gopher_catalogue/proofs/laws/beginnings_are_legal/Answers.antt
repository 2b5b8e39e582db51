use Rattle.gopher_catalogue.proofs.Legal.{IsLegal-take_more}
use Rattle.gopher_catalogue.proofs.laws.beginnings_are_legal.Goals as goal

pub returns : goal.returns
returns c = IsLegal-take_more
