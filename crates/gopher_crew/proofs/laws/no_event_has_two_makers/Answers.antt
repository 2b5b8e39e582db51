use Rattle.gopher_crew.proofs.Making.{one_maker}
use Rattle.gopher_crew.proofs.laws.no_event_has_two_makers.Goals as goal

pub returns : goal.returns
returns c = one_maker
