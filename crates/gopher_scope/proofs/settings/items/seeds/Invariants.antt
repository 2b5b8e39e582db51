use Rattle.std.proofs.Common.{◌≡◌, ◌++◌, drop, map}
use Rattle.toml.specs.View.{view}
use Rattle.gopher_scope.specs.Settings.{seeds_read}
use Rattle.gopher_scope.proofs.settings.items.seeds.Given as goal

abbrev pub invariant-loop-value : goal.invariant-loop-value
invariant-loop-value l =
    l.seeds.items ++ seeds_read (map view (drop l.value-index l.values)) ≡ seeds_read (map view l.values)
