use Rattle.std.specs.Prelude.{◌≡◌, ◌+◌, ◌++◌, vec_len}
use Rattle.std.specs.Vec.Iter.{into_iter_items, into_iter_len}
use Rattle.gopher_hole.specs.Shares.{shares_with}
use Rattle.gopher_hole.proofs.crewing.pairs_of.Given as goal

-- each share so far has its pair
abbrev pub invariant-loop-share : goal.invariant-loop-share
invariant-loop-share g l =
    (vec_len l.pairs + into_iter_len l.share-iterator ≡ into_iter_len l.initial.share-iterator)
    × (shares_with l.pairs.items ++ into_iter_items l.share-iterator ≡ into_iter_items l.initial.share-iterator)
