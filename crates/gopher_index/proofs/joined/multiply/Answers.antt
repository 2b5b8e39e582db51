use Rattle.std.proofs.Common.{◌≡◌, ◌*◌, get_or, refl, ap, ◌∙◌, arith}
use Rattle.std.proofs.lemmas.List.{take_all}
use Rattle.gopher_index.specs.Plan.{zipped}
use Rattle.gopher_index.proofs.Groups.{times_few}
use Rattle.gopher_index.proofs.Zipping.{zipped_at, zipped_next, zipped_none, zipped_own}
use Rattle.gopher_index.proofs.joined.multiply.Goals as goal

pub loop-index-init : goal.loop-index-init
loop-index-init c = zipped_none (λ score count. c.args.times * score) c.args.scores.now

pub overflow_mul-scores : goal.overflow_mul-scores
overflow_mul-scores c =
    let now : get_or c.loop-index.scores c.loop-index.index 0 ≡ get_or c.args.scores.now c.loop-index.index 0 =
    ap (λ l. get_or l c.loop-index.index 0) c.loop-index.invariant ∙ zipped_at (λ score count. c.args.times * score) c.args.scores.now c.args.scores.now c.loop-index.index 0 in
    omega (
      arith,
      ap (λ n. c.args.times * n) now,
      c.requires.times,
      times_few c.args.times (get_or c.args.scores.now c.loop-index.index 0) 1048576 (c.requires.few c.loop-index.index 0 (omega arith)),
    )

pub loop-index-preserved : goal.loop-index-preserved
loop-index-preserved c = zipped_next (λ score count. c.args.times * score) c.args.scores.now c.loop-index.scores c.args.scores.now c.loop-index.index 0 refl (omega arith) c.loop-index.invariant

pub returns : goal.returns
returns c =
    c.loop-index.invariant
    ∙ ap (zipped (λ score count. c.args.times * score) c.args.scores.now) (take_all c.loop-index.index c.args.scores.now (omega arith))
    ∙ zipped_own (λ score. c.args.times * score) c.args.scores.now
