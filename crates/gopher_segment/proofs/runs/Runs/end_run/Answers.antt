use Rattle.std.proofs.Common.{◌++◌, ◌∷◌, [], ap, ◌∙◌}
use Rattle.gopher_segment.specs.Postings.{RunsData}
use Rattle.gopher_segment.proofs.RunLemmas.{packed_ended, whole_ended, begun_ended}
use Rattle.gopher_segment.proofs.runs.Runs.end_run.Goals as goal

pub invariant_of-self-2 : goal.invariant_of-self-2
invariant_of-self-2 c =
    rw c.in_ok-push.ensures.items (packed_ended c.self.inside.pages.items c.self.inside.counts.items c.self.inside.ends.items c.len-2.result c.self.invariant (c.len-2.ensures ∙ c.self.inside.pages.ok.0))

pub returns-clause-whole : goal.returns-clause-whole
returns-clause-whole c =
    rw c.in_ok-push.ensures.items (whole_ended c.self.inside.pages.items c.self.inside.counts.items c.self.inside.ends.items c.len-2.result c.self.invariant (c.len-2.ensures ∙ c.self.inside.pages.ok.0))
    ∙ ap (λ (r : RunsData). r.whole ++ r.begun ∷ []) c.self.view_is

pub returns-clause-begun : goal.returns-clause-begun
returns-clause-begun c =
    rw c.in_ok-push.ensures.items (begun_ended c.self.inside.pages.items c.self.inside.counts.items c.self.inside.ends.items c.len-2.result c.self.invariant (c.len-2.ensures ∙ c.self.inside.pages.ok.0))
