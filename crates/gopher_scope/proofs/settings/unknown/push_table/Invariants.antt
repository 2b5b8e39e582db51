use Rattle.std.proofs.Common.{◌≡◌, ◌++◌, map, string_bytes}
use Rattle.toml.specs.View.{table_view}
use Rattle.gopher_scope.specs.Unknown.{unknown_among, unknown_in}
use Rattle.gopher_scope.proofs.settings.unknown.push_table.Given as goal

abbrev pub invariant-loop-name : goal.invariant-loop-name
invariant-loop-name l =
    l.out.items ++ unknown_among l.array (map (λ name. string_bytes name) l.name-iterator) ≡ l.fn.out.items ++ unknown_in l.array (table_view l.table)
