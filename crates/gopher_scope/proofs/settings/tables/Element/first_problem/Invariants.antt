use Rattle.std.proofs.Common.{◌≡◌, drop}
use Rattle.toml.specs.View.{table_view}
use Rattle.gopher_scope.specs.Values.{first_of, field_problem}
use Rattle.gopher_scope.specs.Rows.{element_fields}
use Rattle.gopher_scope.proofs.settings.tables.Element.first_problem.Given as goal

abbrev pub invariant-loop-field : goal.invariant-loop-field
invariant-loop-field l =
    first_of (field_problem (table_view l.table)) (drop l.field-index l.fields) ≡ first_of (field_problem (table_view l.table)) (element_fields l.fn.self)
