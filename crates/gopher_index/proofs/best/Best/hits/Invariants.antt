use Rattle.std.proofs.Common.{◌≡◌, map, take}
use Rattle.gopher_index.specs.Best.{ranked_hit}
use Rattle.gopher_index.proofs.best.Best.hits.Given as goal

abbrev pub invariant-loop-ranked : goal.invariant-loop-ranked
invariant-loop-ranked l = l.hits.items ≡ map ranked_hit (take l.ranked-index l.ranked-items)
