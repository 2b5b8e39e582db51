use Rattle.std.proofs.Common.{◌≡◌, drop, map}
use Rattle.std.specs.List.{list_any}
use Rattle.toml.specs.View.{table_view, view}
use Rattle.gopher_scope.specs.Unknown.{array_has_unknown, element_has_unknown}
use Rattle.gopher_scope.proofs.settings.unknown.array_has_unknown.Given as goal

abbrev pub invariant-loop-value : goal.invariant-loop-value
invariant-loop-value l =
    list_any (element_has_unknown l.array) (map view (drop l.value-index l.values)) ≡ array_has_unknown (table_view l.table) l.array
