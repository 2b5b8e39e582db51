use Rattle.gopher_crew.proofs.Rounding.{rounds_counted}
use Rattle.gopher_crew.proofs.laws.rounds_are_counted.Goals as goal

pub returns : goal.returns
returns g c = rounds_counted g.F.Calls.fetches g.F.Calls.called
