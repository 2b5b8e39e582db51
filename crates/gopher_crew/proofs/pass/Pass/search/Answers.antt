use Rattle.std.proofs.Common.{arith}
use Rattle.std.proofs.lemmas.Grind.{common_steps}
use Rattle.gopher_crew.proofs.pass.Pass.search.Goals as goal

pub returns-clause-at : goal.returns-clause-at
returns-clause-at g c = grind (arith, common_steps)

pub returns-clause-hits : goal.returns-clause-hits
returns-clause-hits g c = grind (arith, common_steps)
