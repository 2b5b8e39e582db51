use Rattle.std.proofs.Common.{arith}
use Rattle.gopher_bytes.proofs.PartLemmas.{starts_forward, start_within}
use Rattle.gopher_bytes.proofs.parts.span_at.Goals as goal

pub returns-clause-forward : goal.returns-clause-forward
returns-clause-forward c = λ limit chain.
    omega (arith, c.start_of.ensures, c.start_of-2.ensures, starts_forward 0 c.args.ends.now limit c.args.start c.args.end chain c.requires.forward)

pub returns-clause-within : goal.returns-clause-within
returns-clause-within c = λ limit chain. omega (arith, c.start_of-2.ensures, start_within 0 c.args.ends.now limit c.args.end chain)
