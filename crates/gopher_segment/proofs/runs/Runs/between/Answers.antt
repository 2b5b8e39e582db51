use Rattle.std.proofs.Common.{◌≤◌, ◌-◌, length, take, drop, ap, ◌∙◌, arith}
use Rattle.std.specs.List.{zip}
use Rattle.gopher_segment.specs.Postings.{RunsData, one_run}
use Rattle.gopher_segment.proofs.Between.{runs_between}
use Rattle.gopher_bytes.proofs.PartLemmas.{length-parts}
use Rattle.gopher_segment.proofs.runs.Runs.between.Goals as goal

pub span_at-first-requires-clause-within : goal.span_at-first-requires-clause-within
span_at-first-requires-clause-within c =
    omega (arith, c.requires.within, ap (λ (r : RunsData). length r.whole) c.self.view_is, length-parts (zip c.self.inside.pages.items c.self.inside.counts.items) 0 c.self.inside.ends.items, ap length c.deref.ensures.value)

pub returns : goal.returns
returns c =
    let within : c.args.end ≤ length c.self.inside.ends.items =
    omega (arith, c.requires.within, ap (λ (r : RunsData). length r.whole) c.self.view_is, length-parts (zip c.self.inside.pages.items c.self.inside.counts.items) 0 c.self.inside.ends.items) in
    rw (c.deref-2.ensures.value, c.deref-3.ensures.value)
    (runs_between c.self.inside.pages.items c.self.inside.counts.items c.self.inside.ends.items c.args.start c.args.end c.span_at-first.result.0 c.span_at-first.result.1 c.self.invariant c.requires.forward within
    (rw (← c.deref.ensures.value) c.span_at-first.ensures.start) (rw (← c.deref.ensures.value) c.span_at-first.ensures.end))
    ∙ ap (λ (r : RunsData). one_run (take (c.args.end - c.args.start) (drop c.args.start r.whole))) c.self.view_is
