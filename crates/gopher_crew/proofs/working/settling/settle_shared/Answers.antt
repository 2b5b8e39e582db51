use Rattle.std.proofs.Common.{arith}
use Rattle.std.proofs.lemmas.Grind.{common_steps}
use Rattle.gopher_crew.proofs.working.settling.settle_shared.Goals as goal

pub returns-clause-page : goal.returns-clause-page
returns-clause-page c = grind (arith, common_steps)
