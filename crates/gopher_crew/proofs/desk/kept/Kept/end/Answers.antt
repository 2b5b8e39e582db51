use Rattle.std.proofs.Common.{arith}
use Rattle.std.proofs.lemmas.Grind.{common_steps}
use Rattle.gopher_crew.proofs.desk.kept.Kept.end.Goals as goal

pub returns-clause-record : goal.returns-clause-record
returns-clause-record g c = grind (arith, common_steps)
