use Rattle.std.proofs.Common.{arith}
use Rattle.std.proofs.lemmas.Grind.{common_steps}
use Rattle.gopher_bytes.proofs.byte_string.lower_case.Goals as goal

pub returns : goal.returns
returns c = grind (arith, common_steps)
