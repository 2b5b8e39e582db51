use Rattle.std.proofs.Common.{◌≡◌, drop}
use Rattle.gopher_catalogue.specs.Tables.{after_mentions}
use Rattle.gopher_hole.proofs.progress.dropped.add_seeds.Given as goal

abbrev pub invariant-loop-seed : goal.invariant-loop-seed
invariant-loop-seed l =
    after_mentions l.limit l.known.keys (drop l.seed-index l.seeds) ≡ after_mentions l.limit l.initial.known.keys l.seeds
