use Rattle.std.proofs.Common.{rules, arith, below_more, refl, sym, subst, ap, ◌∙◌, ◌≡◌, ◌+◌, [], ◌∷◌, ◌++◌, length, slice_index_or, vec_len}
use Rattle.std.proofs.Math.ListN.{get_or-append}
use Rattle.std.proofs.Math.Seq.{get_or-append_seam}
use Rattle.std.specs.Vec.Iter.{into_iter_items}
use Rattle.std.specs.PromisedHandle.{KeepsAt}
use Rattle.gopher_hole.specs.Ending.{after_thread}
use Rattle.gopher_hole.proofs.ThreadEnds.{after_threads-more, after_threads-none, length-more}
use Rattle.gopher_hole.proofs.starting.join_all.Goals as goal

pub loop-thread-init : goal.loop-thread-init
loop-thread-init g c =
    let all = into_iter_items c.into_iter-thread-iterator.result in
    ([], search rules, (λ k d below. let same : k ≡ 0 + k = omega arith in ap (λ n. slice_index_or all n d) same), (λ k x below. search rules), after_threads-none _)

-- The handle that is joined was the first of the rest, so it is the one at the next place.
pub loop-thread-preserved : goal.loop-thread-preserved
loop-thread-preserved g c =
    let was = c.loop-thread.invariant in let done = was.0 in let step = c.in-Some.ensures.steps in
    let handle = c.in-Some.thread in let end = c.join.result in
    let handles = into_iter_items c.into_iter-thread-iterator.result in let Kept = KeepsAt g.P.Promise handles in
    let next : handle ≡ slice_index_or handles (length done) handle = let h = was.2 0 handle in grind rules in
    let here : Kept (length done) end = record { handle = handle; handle_is = next; kept = c.join.ensures } in
    let grown : length (done ++ end ∷ []) ≡ length done + 1 = length-more done end in (
      done ++ end ∷ [],
      search rules,
      (λ k d below. let h = was.2 (k + 1) d in grind rules),
      (λ k x below. below_more (λ i. Kept i (slice_index_or (done ++ end ∷ []) i x)) (length done)
          (λ i low. subst (Kept i) (sym (get_or-append done (end ∷ []) x i low)) (was.3 i x low))
          (subst (Kept (length done)) (sym (get_or-append_seam done end [] x)) here) k (omega (arith, grown))),
      c.after_thread-end.ensures ∙ ap (λ e. after_thread e end) was.4 ∙ sym (after_threads-more _ done end),
    )

pub returns : goal.returns
returns g c =
    let was = c.loop-thread.invariant in let done = was.0 in let began = c.into_iter-thread-iterator.ensures.into_iter_gives in
    let whole : length done ≡ vec_len c.args.started.threads = omega (arith, was.1, c.in-None.ensures.steps.0, began.1) in
    (done, whole, (λ i x below. (refl, subst (λ hs. KeepsAt g.P.Promise hs i (slice_index_or done i x)) began.0 (was.3 i x (omega (arith, whole))))), was.4)
