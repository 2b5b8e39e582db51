use Rattle.std.proofs.Common.{◌≡◌, take, count_by}
use Rattle.gopher_hole.specs.Dropped.{is_unknown}
use Rattle.gopher_hole.proofs.progress.dropped.unknown_links.Given as goal

abbrev pub invariant-loop-index : goal.invariant-loop-index
invariant-loop-index l =
    l.unknown ≡ count_by (is_unknown l.known.keys) (take l.index l.links)
