use Rattle.std.proofs.Common.{◌≡◌, ◌-◌, Bool, true, length, Some, slice_get, rules, sym, ap, ◌∙◌, arith}
use Rattle.std.proofs.lemmas.Option.{get_or_from_slice_get, slice_get_within}
use Rattle.std.proofs.lemmas.List.Sorted.{IsPartitionPoint-from_clause}
use Rattle.std.specs.Ordering.{is_gt}
use Rattle.gopher_index.specs.Answer.{rank_cmp}
use Rattle.gopher_index.specs.Best.{ranked_hit, rank_of}
use Rattle.gopher_index.specs.declared.best.Ranked.{Ranked}
use Rattle.gopher_index.proofs.AnswerLemmas.{rank_cmp_total, sorted_parted, stands_at}
use Rattle.gopher_index.proofs.best.count_before.Goals as goal

pub returns-in_default-clause-before : goal.returns-in_default-clause-before
returns-in_default-clause-before c = λ sorted.
    let parted = sorted_parted rank_cmp rank_cmp_total ranked_hit c.args.best.now (ranked_hit c.args.candidate.now) sorted in
    let point = IsPartitionPoint-from_clause (λ other. is_gt (rank_of c.args.candidate.now other)) _ _ c.partition_point.ensures.partitioned parted (λ a r q k. search rules) in
    stands_at (λ other. is_gt (rank_of c.args.candidate.now other)) c.args.best.now c.partition_point.result point

pub returns-in-Some-clause-before : goal.returns-in-Some-clause-before
returns-in-Some-clause-before c = λ sorted.
    let best = c.args.best.now in
    let end = length best - 1 in
    let passes : Ranked → Bool = λ other. is_gt (rank_of c.args.candidate.now other) in
    let there : slice_get best end ≡ Some c.in-Some.last.now = sym c.in-Some.ensures.value in
    let after : passes c.in-Some.last.now ≡ true = ap is_gt (sym c.rank.ensures) ∙ sym c.is_gt.ensures ∙ c.if-is_gt.true in
    let parted = sorted_parted rank_cmp rank_cmp_total ranked_hit best (ranked_hit c.args.candidate.now) sorted in
    stands_at passes best (length best) (
      λ i d low below. parted i end d (omega (arith, below)) (slice_get_within best end c.in-Some.last.now there) (ap passes (get_or_from_slice_get best end c.in-Some.last.now d there) ∙ after),
      λ i d past below. absurd (omega (arith, past, below)),
    )
