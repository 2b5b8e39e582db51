use Rattle.std.proofs.Common.{◌≡◌, Some, rules}
use Rattle.toml.specs.Parse.{parse_document}
use Rattle.toml.specs.View.{table_view}
use Rattle.gopher_scope.proofs.Faultless.{answers_in_range, answers_stand}
use Rattle.gopher_scope.proofs.settings.Settings.read.Goals as goal

pub returns-in-Ok-clause-ranges : goal.returns-in-Ok-clause-ranges
returns-in-Ok-clause-ranges c = answers_in_range (table_view c.in-Ok.table) c.of_table.result c.of_table.ensures

pub returns-in-Ok-clause-table : goal.returns-in-Ok-clause-table
returns-in-Ok-clause-table c =
    let read : parse_document c.args.text.now ≡ Some (table_view c.in-Ok.table) = search rules in
    answers_stand (parse_document c.args.text.now) (table_view c.in-Ok.table) c.of_table.result read c.of_table.ensures
