use Rattle.std.proofs.Common.{◌≡◌, map, take}
use Rattle.gopher_index.specs.Best.{kept_hit, ranked_hit}
use Rattle.gopher_index.proofs.best.Best.kept.Given as goal

abbrev pub invariant-loop-one : goal.invariant-loop-one
invariant-loop-one l = map kept_hit l.kept.items ≡ map ranked_hit (take l.one-index l.one-items)
