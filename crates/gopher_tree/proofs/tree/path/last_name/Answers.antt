use Rattle.std.proofs.Common.{sym, ap, ◌∙◌}
use Rattle.gopher_tree.specs.Path.{last_name}
use Rattle.gopher_tree.proofs.PathLemmas.{last_name-more}
use Rattle.gopher_tree.proofs.tree.path.last_name.Goals as goal

pub loop-after-preserved : goal.loop-after-preserved
loop-after-preserved c = sym (last_name-more _ c.in-Some.after.now) ∙ sym (ap last_name c.in-Some.ensures.parts) ∙ c.loop-after.invariant
