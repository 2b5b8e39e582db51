use Rattle.std.proofs.Common.{◌+◌, get_or, ap, ◌∙◌, arith}
use Rattle.gopher_index.proofs.Zipping.{zipped_none, zipped_at, zipped_next}
use Rattle.gopher_index.proofs.joined.add_counts.Goals as goal

pub loop-index-init : goal.loop-index-init
loop-index-init c = zipped_none (λ score count. score + count) c.args.scores.now

pub overflow_add-scores : goal.overflow_add-scores
overflow_add-scores c =
    omega (
      arith,
      ap (λ l. get_or l c.loop-index.index 0) c.loop-index.invariant ∙ zipped_at (λ score count. score + count) c.args.scores.now c.args.counts.now c.loop-index.index 0,
      c.requires.room c.loop-index.index 0 (omega arith),
      c.requires.few c.loop-index.index 0 (omega arith),
    )

pub loop-index-preserved : goal.loop-index-preserved
loop-index-preserved c = zipped_next (λ score count. score + count) c.args.scores.now c.loop-index.scores c.args.counts.now c.loop-index.index 0 c.requires.same (omega arith) c.loop-index.invariant
