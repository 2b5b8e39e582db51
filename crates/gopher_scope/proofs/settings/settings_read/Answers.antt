use Rattle.toml.specs.View.{table_view}
use Rattle.gopher_scope.proofs.Faultless.{form_problem-none, values_read-none}
use Rattle.gopher_scope.specs.Values.{key_value}
use Rattle.gopher_scope.specs.declared.settings.tables.Element.TheVariants.{Seed}
use Rattle.gopher_scope.specs.declared.settings.key.Key.TheVariants.{Seeds}
use Rattle.gopher_scope.proofs.settings.settings_read.Goals as goal

pub seeds-requires : goal.seeds-requires
seeds-requires c =
    rw (c.values.ensures, c.row-2.ensures) (values_read-none Seed (key_value (table_view c.args.table.now) Seeds) (form_problem-none (table_view c.args.table.now) Seeds c.requires))
