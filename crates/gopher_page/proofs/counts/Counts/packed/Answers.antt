use Rattle.std.proofs.Common.{refl, ◌∙◌, arith}
use Rattle.std.specs.List.{zip}
use Rattle.gopher_page.proofs.Lengths.{are_counts, counted_in_order}
use Rattle.gopher_page.proofs.counts.Counts.packed.Goals as goal

pub invariant_of-result : goal.invariant_of-result
invariant_of-result c =
    rw (c.shrink_to_fit.ensures, c.shrink_to_fit-2.ensures)
    (record {
      same = c.in_ok-push_runs.ensures.same;
      sound = rw c.in_ok-push_runs.ensures.runs (are_counts c.args.words.now c.requires.sorted (omega (arith, c.requires.few)));
    })

pub returns : goal.returns
returns c =
    (λ i. zip (c.shrink_to_fit.ensures i) (c.shrink_to_fit-2.ensures i)) ∙ c.in_ok-push_runs.ensures.runs
    ∙ counted_in_order c.args.words.now c.args.words.now c.requires.sorted (λ sought. refl)
