use Rattle.std.proofs.Common.{length, sym, ap, ◌∙◌}
use Rattle.gopher_bytes.proofs.Zips.{length-zip}
use Rattle.gopher_segment.proofs.table.Table.len.Goals as goal

pub returns : goal.returns
returns c = c.len.ensures ∙ sym (length-zip c.self.inside.words c.self.inside.runs.whole c.self.invariant) ∙ ap length c.self.view_is
