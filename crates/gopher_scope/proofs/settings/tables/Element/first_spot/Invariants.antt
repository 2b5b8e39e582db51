use Rattle.std.proofs.Common.{◌≡◌, drop, map}
use Rattle.std.specs.List.{enumerate_from}
use Rattle.toml.specs.View.{view}
use Rattle.gopher_scope.specs.Values.{first_of, spot_at, first_spot}
use Rattle.gopher_scope.proofs.settings.tables.Element.first_spot.Given as goal

abbrev pub invariant-loop-index : goal.invariant-loop-index
invariant-loop-index l =
    first_of (spot_at l.self) (enumerate_from l.index (map view (drop l.index l.values))) ≡ first_spot l.self (map view l.values)
