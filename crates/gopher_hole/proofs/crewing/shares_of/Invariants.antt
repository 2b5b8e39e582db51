use Rattle.std.specs.Prelude.{◌≡◌, ◌++◌}
use Rattle.std.specs.Vec.Iter.{into_iter_items}
use Rattle.gopher_hole.specs.Shares.{shares_after}
use Rattle.gopher_hole.proofs.crewing.shares_of.Given as goal

-- each worker so far gave its share
abbrev pub invariant-loop-end : goal.invariant-loop-end
invariant-loop-end g l =
    l.shares.items ++ shares_after (into_iter_items l.end-iterator) ≡ shares_after (into_iter_items l.initial.end-iterator)
