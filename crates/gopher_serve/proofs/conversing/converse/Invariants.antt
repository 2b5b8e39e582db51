use Rattle.std.proofs.Common.{◌≤◌}
use Rattle.gopher_serve.specs.Advance.{GivesOn, HearsOn, SaysOn}
use Rattle.gopher_item.specs.Leads.{Leads}
use Rattle.gopher_serve.proofs.PauseLemmas.{KeepsSteps, turns}
use Rattle.gopher_serve.proofs.conversing.converse.Given as goal

-- the conversation went on from where it stood at first
abbrev pub invariant-loop-step : goal.invariant-loop-step
invariant-loop-step g l =
    HearsOn g.R.Read.remaining l.initial.talk l.talk l.initial.reader l.reader
    × GivesOn g.A.Answers.gives g.A.Answers.leads_to l.initial.talk l.talk l.initial.answers l.answers
    × SaysOn g.W.Write.contents l.initial.talk l.talk l.initial.writer l.writer
    × Leads g.A.Answers.leads_to l.initial.answers l.answers
    × (l.initial.reader.failures ≤ l.reader.failures) × (l.initial.writer.failures ≤ l.writer.failures)
    × KeepsSteps l.initial.talk l.talk
    × (l._step ≤ turns l.talk l.reader l.writer)
