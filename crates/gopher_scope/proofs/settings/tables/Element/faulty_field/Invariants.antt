use Rattle.std.proofs.Common.{◌≡◌, drop}
use Rattle.toml.specs.View.{table_view}
use Rattle.gopher_scope.specs.Values.{first_of, faulty}
use Rattle.gopher_scope.specs.Rows.{element_fields}
use Rattle.gopher_scope.proofs.settings.tables.Element.faulty_field.Given as goal

abbrev pub invariant-loop-field : goal.invariant-loop-field
invariant-loop-field l =
    first_of (faulty (table_view l.table)) (drop l.field-index l.fields) ≡ first_of (faulty (table_view l.table)) (element_fields l.fn.self)
