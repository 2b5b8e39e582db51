use Rattle.std.proofs.Common.{◌∙◌, ap, sym, subst, length}
use Rattle.gopher_bytes.proofs.Zips.{length-zip}
use Rattle.gopher_page.specs.Packed.{AreCounts}
use Rattle.gopher_page.proofs.counts.Counts.len.Goals as goal

pub returns-clause-value : goal.returns-clause-value
returns-clause-value c = c.len.ensures ∙ sym (length-zip c.self.inside.words c.self.inside.counts c.self.invariant.same) ∙ ap length c.self.view_is

pub returns-clause-counts : goal.returns-clause-counts
returns-clause-counts c = subst AreCounts c.self.view_is c.self.invariant.sound
