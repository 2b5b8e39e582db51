use Rattle.std.proofs.Common.{◌≡◌, drop}
use Rattle.gopher_catalogue.specs.Tables.{after_mentions}
use Rattle.gopher_hole.proofs.progress.dropped.add_links.Given as goal

abbrev pub invariant-loop-index : goal.invariant-loop-index
invariant-loop-index l =
    after_mentions l.limit l.known.keys (drop l.index l.links) ≡ after_mentions l.limit l.initial.known.keys l.links
