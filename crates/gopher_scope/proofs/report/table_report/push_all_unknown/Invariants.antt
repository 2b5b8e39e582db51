use Rattle.std.proofs.Common.{◌≡◌, ◌++◌, drop, map}
use Rattle.gopher_scope.specs.Finding.{unknown_finding}
use Rattle.gopher_scope.proofs.report.table_report.push_all_unknown.Given as goal

abbrev pub invariant-loop-key : goal.invariant-loop-key
invariant-loop-key l =
    l.out.items ++ map unknown_finding (drop l.key-index l.keys) ≡ l.fn.out.items ++ map unknown_finding l.keys
