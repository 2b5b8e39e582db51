use Rattle.toml.specs.View.{table_view}
use Rattle.gopher_scope.proofs.Faultless.{form_problem-none, scalar_problem-none}
use Rattle.gopher_scope.specs.Values.{key_value}
use Rattle.gopher_scope.specs.Rows.{key_row}
use Rattle.gopher_scope.proofs.settings.integer_at.Goals as goal

pub integer-requires : goal.integer-requires
integer-requires c =
    rw c.row.ensures (scalar_problem-none (key_row c.args.key).1 (key_value (table_view c.args.table.now) c.args.key) (form_problem-none (table_view c.args.table.now) c.args.key c.requires))
