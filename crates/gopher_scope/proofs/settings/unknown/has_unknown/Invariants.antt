use Rattle.std.proofs.Common.{◌≡◌, map, not, string_bytes}
use Rattle.std.specs.List.{list_any}
use Rattle.toml.specs.View.{table_view}
use Rattle.gopher_scope.specs.Unknown.{has_unknown, is_known_in}
use Rattle.gopher_scope.proofs.settings.unknown.has_unknown.Given as goal

abbrev pub invariant-loop-name : goal.invariant-loop-name
invariant-loop-name l =
    list_any (λ name. not (is_known_in l.array name)) (map (λ name. string_bytes name) l.name-iterator) ≡ has_unknown l.array (table_view l.table)
