use Rattle.std.proofs.Common.{ap, ◌∙◌}
use Rattle.toml.proofs.Views.{table_get}
use Rattle.toml.specs.View.{table_view}
use Rattle.gopher_scope.specs.Values.{value_at}
use Rattle.gopher_scope.proofs.settings.row.Row.value.Goals as goal

pub returns : goal.returns
returns c =
    table_get c.get.result _ c.args.table.now.entries c.get.ensures.value ∙ ap (value_at (table_view c.args.table.now)) c.self.view_is
