use Rattle.std.proofs.Common.{◌≡◌, ◌++◌, drop}
use Rattle.toml.specs.View.{table_view}
use Rattle.gopher_scope.specs.Finding.{key_findings}
use Rattle.gopher_scope.proofs.report.table_report.push_keys.Given as goal

abbrev pub invariant-loop-key : goal.invariant-loop-key
invariant-loop-key l =
    l.out.items ++ key_findings (table_view l.table) (drop l.key-index l.keys) ≡ l.fn.out.items ++ key_findings (table_view l.table) l.keys
