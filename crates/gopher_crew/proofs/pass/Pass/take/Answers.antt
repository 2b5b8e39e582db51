use Rattle.std.proofs.Common.{arith}
use Rattle.std.proofs.lemmas.Grind.{common_steps}
use Rattle.gopher_crew.proofs.pass.Pass.take.Goals as goal

pub returns-in-Ok-clause-sees_on : goal.returns-in-Ok-clause-sees_on
returns-in-Ok-clause-sees_on g c = grind (arith, common_steps)
