use Rattle.std.proofs.Common.{◌≡◌, ◌++◌, drop, map}
use Rattle.toml.specs.View.{view}
use Rattle.gopher_scope.specs.Settings.{rules_read}
use Rattle.gopher_scope.proofs.settings.items.rules.Given as goal

abbrev pub invariant-loop-value : goal.invariant-loop-value
invariant-loop-value l =
    l.rules.items ++ rules_read (map view (drop l.value-index l.values)) ≡ rules_read (map view l.values)
