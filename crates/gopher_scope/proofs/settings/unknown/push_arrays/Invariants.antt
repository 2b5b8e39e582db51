use Rattle.std.proofs.Common.{◌≡◌, ◌++◌, drop}
use Rattle.std.specs.List.{flat_map}
use Rattle.toml.specs.View.{table_view}
use Rattle.gopher_scope.specs.Unknown.{array_unknown}
use Rattle.gopher_scope.proofs.settings.unknown.push_arrays.Given as goal

abbrev pub invariant-loop-key : goal.invariant-loop-key
invariant-loop-key l =
    l.out.items ++ flat_map (array_unknown (table_view l.table)) (drop l.key-index l.keys) ≡ l.fn.out.items ++ flat_map (array_unknown (table_view l.table)) l.keys
