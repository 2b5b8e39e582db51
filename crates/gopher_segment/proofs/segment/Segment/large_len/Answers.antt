use Rattle.std.proofs.Common.{length, ap, ◌∙◌}
use Rattle.gopher_segment.specs.Large.{large_from}
use Rattle.gopher_segment.specs.Segment.{SegmentData}
use Rattle.gopher_segment.proofs.segment.Segment.large_len.Goals as goal

pub returns : goal.returns
returns c =
    c.len.ensures ∙ c.self.inside.large.ok.0
    ∙ ap length c.self.invariant.0.large_is
    ∙ ap (λ (s : SegmentData). length (large_from 0 s.pages)) c.self.view_is
