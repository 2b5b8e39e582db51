use Rattle.std.proofs.Common.{◌++◌, ◌∷◌, [], refl, ap, ◌∙◌}
use Rattle.gopher_segment.specs.Postings.{RunsData}
use Rattle.gopher_segment.proofs.RunLemmas.{packed_more, whole_more, begun_more}
use Rattle.gopher_segment.proofs.runs.Runs.push.Goals as goal

pub invariant_of-self-2 : goal.invariant_of-self-2
invariant_of-self-2 c =
    rw (c.push_reserved.ensures.items, c.in_ok-push.ensures.items, c.reserve.ensures.items)
    (packed_more c.self.inside.pages.items c.self.inside.counts.items c.self.inside.ends.items (c.args.page ∷ []) (c.args.count ∷ []) c.self.invariant refl)

pub returns-clause-whole : goal.returns-clause-whole
returns-clause-whole c =
    rw (c.push_reserved.ensures.items, c.in_ok-push.ensures.items, c.reserve.ensures.items)
    (whole_more c.self.inside.pages.items c.self.inside.counts.items c.self.inside.ends.items (c.args.page ∷ []) (c.args.count ∷ []) c.self.invariant)
    ∙ ap (λ (r : RunsData). r.whole) c.self.view_is

pub returns-clause-begun : goal.returns-clause-begun
returns-clause-begun c =
    rw (c.push_reserved.ensures.items, c.in_ok-push.ensures.items, c.reserve.ensures.items)
    (begun_more c.self.inside.pages.items c.self.inside.counts.items c.self.inside.ends.items (c.args.page ∷ []) (c.args.count ∷ []) c.self.invariant)
    ∙ ap (λ (r : RunsData). r.begun ++ (c.args.page, c.args.count) ∷ []) c.self.view_is
