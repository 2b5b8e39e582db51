use Rattle.std.proofs.Common.{◌≡◌, ℕ, ◌+◌, ◌*◌, ◌∙◌, sym, arith}
use Rattle.gopher_index.specs.Plan.{zipped}
use Rattle.gopher_index.proofs.Zipping.{zipped_idle}
use Rattle.gopher_index.proofs.joined.add_wanted.Goals as goal

pub returns-in-0 : goal.returns-in-0
returns-in-0 c =
    zipped_idle (λ score count. score + 0 * count) c.args.scores.now c.args.counts.now (λ score count. omega arith)
    ∙ (λ i. zipped (λ score count. score + sym c.in-0.is i * count) c.args.scores.now c.args.counts.now)

pub returns-in-1 : goal.returns-in-1
returns-in-1 c =
    c.add_counts.ensures
    ∙ (λ i. zipped (λ score count. score + once count i) c.args.scores.now c.args.counts.now)
    ∙ (λ i. zipped (λ score count. score + sym c.in-1.is i * count) c.args.scores.now c.args.counts.now)
  where
    once : (count : ℕ) → count ≡ 1 * count
    once count = omega arith
