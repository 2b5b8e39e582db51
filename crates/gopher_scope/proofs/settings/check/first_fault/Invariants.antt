use Rattle.std.proofs.Common.{◌≡◌, drop}
use Rattle.toml.specs.View.{table_view}
use Rattle.gopher_scope.specs.Values.{first_of}
use Rattle.gopher_scope.specs.Settings.{key_fault}
use Rattle.gopher_scope.proofs.settings.check.first_fault.Given as goal

abbrev pub invariant-loop-key : goal.invariant-loop-key
invariant-loop-key l =
    first_of (key_fault (table_view l.table)) (drop l.key-index l.keys) ≡ first_of (key_fault (table_view l.table)) l.keys
