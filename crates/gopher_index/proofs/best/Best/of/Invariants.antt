use Rattle.std.proofs.Common.{◌≡◌, map, take}
use Rattle.gopher_index.specs.Best.{kept_hit, ranked_hit}
use Rattle.gopher_index.proofs.best.Best.of.Given as goal

abbrev pub invariant-loop-one : goal.invariant-loop-one
invariant-loop-one l = map ranked_hit l.ranked.items ≡ map kept_hit (take l.one-index l.kept)
