use Rattle.gopher_crew.proofs.Agreeing.{agree}
use Rattle.gopher_crew.proofs.laws.admitted_outcomes_agree.Goals as goal

pub returns : goal.returns
returns c = agree
