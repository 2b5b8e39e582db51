use Rattle.std.proofs.Common.{◌≡◌, nat_le, take}
use Rattle.std.specs.List.{list_any}
use Rattle.gopher_index.proofs.by_postings.any_from.Given as goal

abbrev pub invariant-loop-count : goal.invariant-loop-count
invariant-loop-count l = l.is_reached ≡ list_any (λ count. nat_le l.lowest count) (take l.count-index l.counts)
