use Rattle.std.proofs.Common.{◌≡◌, map, take}
use Rattle.gopher_check.specs.Coverage.{texts_among}
use Rattle.gopher_check.proofs.coverage.texts_among.Given as goal

abbrev pub invariant-loop-path : goal.invariant-loop-path
invariant-loop-path l =
    map (λ path. path.now) l.texts.items
    ≡ texts_among l.tree (map (λ path. path.now) (take l.path-index l.paths))
