use Rattle.std.proofs.Common.{◌≡◌, ◌≤◌, true, false, length, map, sym, ap, subst, ◌∙◌}
use Rattle.std.specs.List.Sorted.{IsStrictlySortedBy}
use Rattle.std.specs.Option.{option_map_or}
use Rattle.std.specs.Ordering.{is_eq}
use Rattle.std.specs.Prelude.{slice_get}
use Rattle.gopher_index.specs.Answer.{rank_cmp}
use Rattle.gopher_index.specs.Best.{ranked_hit}
use Rattle.gopher_index.proofs.AnswerLemmas.{StandsBehind, through, inserted_equal, inserted_less}
use Rattle.gopher_index.proofs.best.put.Goals as goal

pub returns-then-is_equal_at : goal.returns-then-is_equal_at
returns-then-is_equal_at c = λ sorted.
    let stands : StandsBehind (through ranked_hit rank_cmp) c.args.candidate c.args.best.now.items c.count_before-index.result =
    subst (λ xs. StandsBehind (through ranked_hit rank_cmp) c.args.candidate xs c.count_before-index.result) c.deref.ensures.value (let here = c.count_before-index.ensures.before (subst (λ xs. IsStrictlySortedBy rank_cmp (map ranked_hit xs)) (sym c.deref.ensures.value) sorted) in record { before = here.0; here = here.1 }) in
    let same : option_map_or (λ x. is_eq (rank_cmp (ranked_hit c.args.candidate) (ranked_hit x))) (slice_get c.args.best.now.items c.count_before-index.result) false ≡ true =
    ap (λ xs. option_map_or (λ x. is_eq (rank_cmp (ranked_hit c.args.candidate) (ranked_hit x))) (slice_get xs c.count_before-index.result) false) (sym c.deref-2.ensures.value) ∙ sym c.is_equal_at.ensures ∙ c.if-is_equal_at.true in
    inserted_equal ranked_hit rank_cmp c.args.candidate c.args.best.now.items c.count_before-index.result stands same

pub returns : goal.returns
returns c = λ sorted.
    let stands : StandsBehind (through ranked_hit rank_cmp) c.args.candidate c.args.best.now.items c.count_before-index.result =
    subst (λ xs. StandsBehind (through ranked_hit rank_cmp) c.args.candidate xs c.count_before-index.result) c.deref.ensures.value (let here = c.count_before-index.ensures.before (subst (λ xs. IsStrictlySortedBy rank_cmp (map ranked_hit xs)) (sym c.deref.ensures.value) sorted) in record { before = here.0; here = here.1 }) in
    let apart : option_map_or (λ x. is_eq (rank_cmp (ranked_hit c.args.candidate) (ranked_hit x))) (slice_get c.args.best.now.items c.count_before-index.result) false ≡ false =
    ap (λ xs. option_map_or (λ x. is_eq (rank_cmp (ranked_hit c.args.candidate) (ranked_hit x))) (slice_get xs c.count_before-index.result) false) (sym c.deref-2.ensures.value) ∙ sym c.is_equal_at.ensures ∙ c.if-is_equal_at.false in
    ap (map ranked_hit) c.in-Ok.ensures.items
    ∙ inserted_less ranked_hit rank_cmp c.args.candidate c.args.best.now.items c.count_before-index.result stands
    (subst (λ xs. c.count_before-index.result ≤ length xs) c.deref.ensures.value c.count_before-index.ensures.within) apart
