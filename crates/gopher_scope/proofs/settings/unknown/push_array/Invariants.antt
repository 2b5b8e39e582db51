use Rattle.std.proofs.Common.{◌≡◌, ◌++◌, drop, map}
use Rattle.std.specs.List.{flat_map}
use Rattle.toml.specs.View.{view}
use Rattle.gopher_scope.specs.Unknown.{element_unknown}
use Rattle.gopher_scope.proofs.settings.unknown.push_array.Given as goal

abbrev pub invariant-loop-value : goal.invariant-loop-value
invariant-loop-value l =
    l.out.items ++ flat_map (element_unknown l.array) (map view (drop l.value-index l.values)) ≡ l.fn.out.items ++ flat_map (element_unknown l.array) (map view l.values)
