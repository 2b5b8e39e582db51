use Rattle.std.proofs.Common.{◌≡◌, nat_le, take}
use Rattle.std.specs.List.{list_any}
use Rattle.gopher_index.proofs.by_cells.any_reaches.Given as goal

abbrev pub invariant-loop-score : goal.invariant-loop-score
invariant-loop-score l = l.is_reached ≡ list_any (λ score. nat_le l.lowest score) (take l.score-index l.scores)
