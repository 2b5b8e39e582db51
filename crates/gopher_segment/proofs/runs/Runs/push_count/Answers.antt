use Rattle.std.proofs.Common.{◌-◌, ◌++◌, ◌∷◌, [], sym, ap, ◌∙◌, append_assoc}
use Rattle.gopher_segment.specs.Postings.{pieces}
use Rattle.gopher_segment.proofs.PostingLemmas.{pieces_last, pieces_more}
use Rattle.gopher_segment.proofs.runs.Runs.push_count.Goals as goal

pub loop-left-preserved : goal.loop-left-preserved
loop-left-preserved c = record {
  whole = c.in_ok-push.ensures.whole ∙ c.loop-left.invariant.whole;
  begun =
      ap (λ l. l ++ pieces c.args.page (c.loop-left.left - 255)) c.in_ok-push.ensures.begun
      ∙ append_assoc c.loop-left.self.begun ((c.args.page, 255) ∷ []) (pieces c.args.page (c.loop-left.left - 255))
      ∙ ap (λ l. c.loop-left.self.begun ++ l) (sym (pieces_more c.args.page c.loop-left.left c.loop-left-test.true))
      ∙ c.loop-left.invariant.begun;
}

pub returns-clause-begun : goal.returns-clause-begun
returns-clause-begun c =
    c.in_ok-push-2.ensures.begun
    ∙ ap (λ l. c.loop-left.self.begun ++ l) (sym (pieces_last c.args.page c.loop-left.left c.loop-left-test.false))
    ∙ c.loop-left.invariant.begun
