use Rattle.std.proofs.Common.{arith}
use Rattle.gopher_bytes.proofs.PartLemmas.{start_le_end, end_le_limit}
use Rattle.gopher_bytes.proofs.parts.range_at.Goals as goal

pub returns-clause-forward : goal.returns-clause-forward
returns-clause-forward c = λ limit chain. omega (arith, c.start_of.ensures, start_le_end 0 c.args.ends.now limit c.args.index 0 chain c.requires)

pub returns-clause-within : goal.returns-clause-within
returns-clause-within c = λ limit chain. end_le_limit 0 c.args.ends.now limit c.args.index 0 chain c.requires
