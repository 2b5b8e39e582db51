use Rattle.toml.specs.View.{table_view}
use Rattle.gopher_scope.proofs.Faultless.{form_problem-none, values_read-none}
use Rattle.gopher_scope.specs.Values.{key_value}
use Rattle.gopher_scope.specs.declared.settings.tables.Element.TheVariants.{Rule}
use Rattle.gopher_scope.specs.declared.settings.key.Key.TheVariants.{Allow, Deny}
use Rattle.gopher_scope.proofs.settings.scope_at.Goals as goal

pub rules-requires : goal.rules-requires
rules-requires c =
    rw (c.values.ensures, c.row.ensures) (values_read-none Rule (key_value (table_view c.args.table.now) Allow) (form_problem-none (table_view c.args.table.now) Allow c.requires))

pub rules-requires-2 : goal.rules-requires-2
rules-requires-2 c =
    rw (c.values-2.ensures, c.row-2.ensures) (values_read-none Rule (key_value (table_view c.args.table.now) Deny) (form_problem-none (table_view c.args.table.now) Deny c.requires))
