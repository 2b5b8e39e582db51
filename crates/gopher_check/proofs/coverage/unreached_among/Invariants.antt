use Rattle.std.proofs.Common.{◌≡◌, map, take}
use Rattle.gopher_check.specs.Coverage.{unreached_among, unreached_data}
use Rattle.gopher_check.proofs.coverage.unreached_among.Given as goal

abbrev pub invariant-loop-path : goal.invariant-loop-path
invariant-loop-path l =
    map unreached_data l.unreached.items
    ≡ unreached_among l.home l.reach (map (λ path. path.now) (take l.path-index l.texts))
