use Rattle.std.proofs.Common.{ap, ◌∙◌}
use Rattle.gopher_segment.specs.Rows.{first_run}
use Rattle.gopher_segment.proofs.RowLemmas.{first_run-drop}
use Rattle.gopher_segment.proofs.merging.Cursor.run.Goals as goal

pub returns : goal.returns
returns c = first_run-drop c.self.inside.table.now c.self.inside.at c.run.result c.run.ensures ∙ ap first_run c.self.view_is
