use Rattle.std.proofs.Common.{arith}
use Rattle.std.proofs.lemmas.Grind.{common_steps}
use Rattle.gopher_text.proofs.text.line_as_read.Goals as goal

pub returns-in-46-clause-read : goal.returns-in-46-clause-read
returns-in-46-clause-read c = grind (arith, common_steps)
