use Rattle.std.proofs.Common.{max, set, get_or, ap, ◌∙◌, arith}
use Rattle.gopher_index.specs.Plan.{verdict_by}
use Rattle.gopher_index.proofs.Zipping.{zipped_none, zipped_next}
use Rattle.gopher_index.proofs.joined.raise_verdicts.Goals as goal

pub loop-index-init : goal.loop-index-init
loop-index-init c = zipped_none (λ verdict count. max verdict (verdict_by c.args.group.now count)) c.args.verdicts.now

pub loop-index-preserved : goal.loop-index-preserved
loop-index-preserved c =
    ap (λ verdict. set c.loop-index.verdicts c.loop-index.index verdict) (c.higher.ensures ∙ ap (max (get_or c.loop-index.verdicts c.loop-index.index 0)) c.verdict_for.ensures)
    ∙ zipped_next (λ verdict count. max verdict (verdict_by c.args.group.now count)) c.args.verdicts.now c.loop-index.verdicts c.args.counts.now c.loop-index.index 0 c.requires (omega arith) c.loop-index.invariant
