use Rattle.std.proofs.Common.{◌∙◌, sym, arith}
use Rattle.gopher_script.proofs.Blocks.{reply-step, statements-step, statements-end}
use Rattle.gopher_script.proofs.script.take_block.Goals as goal

pub loop-text-preserved : goal.loop-text-preserved
loop-text-preserved c = (
  reply-step _ _ _ _ _ _ _ c.in-Some.ensures.line c.in_ok-extend_from_slice.ensures.items c.in_ok-extend_from_slice-2.ensures.items c.loop-text.invariant.0,
  statements-step _ _ _ _ _ c.in-Some.ensures.line c.loop-text.invariant.1,
  omega (arith, c.in-Some.ensures.shorter, c.loop-text.invariant.2),
)

pub returns-clause-rest : goal.returns-clause-rest
returns-clause-rest c = sym (statements-end _ _ c.in_default.ensures.line) ∙ c.loop-text.invariant.1
