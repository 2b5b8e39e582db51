use Rattle.std.proofs.Common.{◌≡◌, refl, inl, subst, arith, rules}
use Rattle.gopher_serve.proofs.LeadsLemmas.{leads_stays, leads_joins}
use Rattle.gopher_serve.proofs.StepLemmas.{Steps, hears_on, gives_on, says_on, gives_joins, says_stays, says_joins}
use Rattle.gopher_serve.proofs.StopLemmas.{steps_count, steps_stop, stops_since}
use Rattle.gopher_serve.specs.declared.advancing.Progress.TheVariants.{Paused}
use Rattle.gopher_serve.proofs.PauseLemmas.{counts_on, keeps_joins, pauses, works_near, works_since}
use Rattle.gopher_serve.proofs.conversing.converse.Goals as goal

pub loop-step-init : goal.loop-step-init
loop-step-init g c = (
  λ had taken. taken,
  λ line reply has. inl has,
  says_stays g.W.Write.contents c.args.talk.now c.args.writer.now,
  leads_stays g.A.Answers.leads_to c.args.answers.now,
  omega arith,
  omega arith,
  λ responds. (responds, refl),
  omega arith,
)

pub returns-then-ne-clause-hears : goal.returns-then-ne-clause-hears
returns-then-ne-clause-hears g c = λ had taken.
    let ensures = c.advance-progress.ensures in
    hears_on g.R.Read.remaining g.A.Answers.gives g.W.Write.contents _ _ _ _ _ _ _ _ _ (ensures.hears, ensures.asks, ensures.says) had (c.loop-step.invariant.0 had taken)

pub returns-then-ne-clause-gives : goal.returns-then-ne-clause-gives
returns-then-ne-clause-gives g c =
    let ensures = c.advance-progress.ensures in
    let leads_to = g.A.Answers.leads_to in
    gives_joins g.A.Answers.gives leads_to _ _ _ _ _ _ c.loop-step.invariant.3 ensures.leads c.loop-step.invariant.1
    (gives_on g.R.Read.remaining g.A.Answers.gives g.W.Write.contents leads_to _ _ _ _ _ _ _ _ _ (ensures.hears, ensures.asks, ensures.says))

pub returns-then-ne-clause-says : goal.returns-then-ne-clause-says
returns-then-ne-clause-says g c =
    let ensures = c.advance-progress.ensures in
    says_joins g.W.Write.contents _ _ _ c.args.writer.now c.loop-step.writer c.advance-progress.new.writer c.loop-step.invariant.2
    (says_on g.R.Read.remaining g.A.Answers.gives g.W.Write.contents _ _ _ _ _ _ _ _ _ (ensures.hears, ensures.asks, ensures.says))

pub returns-then-ne-clause-leads : goal.returns-then-ne-clause-leads
returns-then-ne-clause-leads g c = leads_joins g.A.Answers.leads_to _ _ _ c.loop-step.invariant.3 c.advance-progress.ensures.leads

pub loop-step-preserved : goal.loop-step-preserved
loop-step-preserved g c =
    let ensures = c.advance-progress.ensures in
    let leads_to = g.A.Answers.leads_to in
    let before = c.loop-step.invariant in
    let counts = steps_count g.R.Read.remaining g.A.Answers.gives g.W.Write.contents _ _ _ _ _ _ _ _ _ (ensures.hears, ensures.asks, ensures.says) in
    let is : c.advance-progress.result ≡ Paused = search rules in
    let paused = pauses g.R.Read.remaining g.A.Answers.gives g.W.Write.contents _ _ _ _ _ _ _ _
    (subst (Steps g.R.Read.remaining g.A.Answers.gives g.W.Write.contents _ _ _ _ _ _ _ _) is (ensures.hears, ensures.asks, ensures.says)) in (
      λ had taken. hears_on g.R.Read.remaining g.A.Answers.gives g.W.Write.contents _ _ _ _ _ _ _ _ _ (ensures.hears, ensures.asks, ensures.says) had (before.0 had taken),
      gives_joins g.A.Answers.gives leads_to _ _ _ _ _ _ before.3 ensures.leads before.1
          (gives_on g.R.Read.remaining g.A.Answers.gives g.W.Write.contents leads_to _ _ _ _ _ _ _ _ _ (ensures.hears, ensures.asks, ensures.says)),
      says_joins g.W.Write.contents _ _ _ c.args.writer.now c.loop-step.writer c.advance-progress.new.writer before.2 (says_on g.R.Read.remaining g.A.Answers.gives g.W.Write.contents _ _ _ _ _ _ _ _ _ (ensures.hears, ensures.asks, ensures.says)),
      leads_joins leads_to _ _ _ before.3 ensures.leads,
      omega (arith, before.4, counts.0),
      omega (arith, before.5, counts.1),
      keeps_joins _ _ _ before.6 paused.0,
      counts_on c.loop-step._step _ _ c.loop-step-test.true before.7 paused.1,
    )

pub returns-then-ne-clause-nears : goal.returns-then-ne-clause-nears
returns-then-ne-clause-nears g c = λ works.
    let ensures = c.advance-progress.ensures in
    works_since c.args.talk.now c.loop-step.talk c.advance-progress.new.talk c.loop-step.invariant.6
    (works_near g.R.Read.remaining g.A.Answers.gives g.W.Write.contents _ _ _ _ _ _ _ _
    (subst (Steps g.R.Read.remaining g.A.Answers.gives g.W.Write.contents _ _ _ _ _ _ _ _) works (ensures.hears, ensures.asks, ensures.says)))

pub returns-then-ne-clause-stops : goal.returns-then-ne-clause-stops
returns-then-ne-clause-stops g c =
    let ensures = c.advance-progress.ensures in
    let counts = steps_count g.R.Read.remaining g.A.Answers.gives g.W.Write.contents _ _ _ _ _ _ _ _ _ (ensures.hears, ensures.asks, ensures.says) in
    let ends : c.advance-progress.result ≡ Paused → ⊥ = search rules in
    stops_since c.advance-progress.new.talk c.args.reader.now c.loop-step.reader c.advance-progress.new.reader c.args.writer.now c.loop-step.writer c.advance-progress.new.writer c.advance-progress.result c.loop-step.invariant.4 counts.0 c.loop-step.invariant.5 counts.1
    (steps_stop g.R.Read.remaining g.A.Answers.gives g.W.Write.contents _ _ _ _ _ _ _ _ _ (ensures.hears, ensures.asks, ensures.says) ends)
