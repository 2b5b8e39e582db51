use Rattle.std.proofs.Common.{◌<◌, length, slice_get, sym, ap, ◌∙◌, arith}
use Rattle.std.specs.List.{zip}
use Rattle.gopher_segment.specs.Postings.{RunsData}
use Rattle.gopher_bytes.proofs.PartLemmas.{length-parts}
use Rattle.gopher_segment.proofs.RunLemmas.{run_at}
use Rattle.gopher_segment.proofs.runs.Runs.get.Goals as goal

pub range_at-start-requires : goal.range_at-start-requires
range_at-start-requires c =
    omega (arith, c.requires, ap (λ (r : RunsData). length r.whole) c.self.view_is, length-parts (zip c.self.inside.pages.items c.self.inside.counts.items) 0 c.self.inside.ends.items, ap length c.deref.ensures.value)

pub returns : goal.returns
returns c =
    let within : c.args.index < length c.self.inside.ends.items =
    omega (arith, c.requires, ap (λ (r : RunsData). length r.whole) c.self.view_is, length-parts (zip c.self.inside.pages.items c.self.inside.counts.items) 0 c.self.inside.ends.items) in
    ap (λ (r : RunsData). slice_get r.whole c.args.index) (sym c.self.view_is)
    ∙ rw (c.deref-2.ensures.value, c.deref-3.ensures.value)
    (run_at c.self.inside.pages.items c.self.inside.counts.items c.self.inside.ends.items c.args.index c.range_at-start.result.0 c.range_at-start.result.1 0 c.self.invariant within
    (rw (← c.deref.ensures.value) c.range_at-start.ensures.start) (rw (← c.deref.ensures.value) c.range_at-start.ensures.end))
