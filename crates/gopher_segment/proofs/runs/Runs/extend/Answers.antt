use Rattle.std.proofs.Common.{◌++◌, ap, ◌∙◌}
use Rattle.gopher_segment.specs.Postings.{RunsData}
use Rattle.gopher_segment.proofs.RunLemmas.{packed_more, whole_more, begun_more}
use Rattle.gopher_segment.proofs.runs.Runs.extend.Goals as goal

pub invariant_of-self-2 : goal.invariant_of-self-2
invariant_of-self-2 c =
    rw (c.in_ok-extend_from_slice.ensures.items, c.in_ok-extend_from_slice-2.ensures.items, c.reserve.ensures.items, c.reserve-2.ensures.items)
    (packed_more c.self.inside.pages.items c.self.inside.counts.items c.self.inside.ends.items c.run.inside.pages.now c.run.inside.counts.now c.self.invariant c.run.invariant)

pub returns-clause-whole : goal.returns-clause-whole
returns-clause-whole c =
    rw (c.in_ok-extend_from_slice.ensures.items, c.in_ok-extend_from_slice-2.ensures.items, c.reserve.ensures.items, c.reserve-2.ensures.items)
    (whole_more c.self.inside.pages.items c.self.inside.counts.items c.self.inside.ends.items c.run.inside.pages.now c.run.inside.counts.now c.self.invariant)
    ∙ ap (λ (r : RunsData). r.whole) c.self.view_is

pub returns-clause-begun : goal.returns-clause-begun
returns-clause-begun c =
    rw (c.in_ok-extend_from_slice.ensures.items, c.in_ok-extend_from_slice-2.ensures.items, c.reserve.ensures.items, c.reserve-2.ensures.items)
    (begun_more c.self.inside.pages.items c.self.inside.counts.items c.self.inside.ends.items c.run.inside.pages.now c.run.inside.counts.now c.self.invariant)
    ∙ (λ i. (ap (λ (r : RunsData). r.begun) c.self.view_is) i ++ c.run.view_is i)
