use Rattle.std.proofs.Common.{arith}
use Rattle.std.proofs.lemmas.Grind.{common_steps}
use Rattle.gopher_bytes.proofs.line.is_last_line.Goals as goal

pub returns-in-46 : goal.returns-in-46
returns-in-46 c = grind (arith, common_steps)
