use Rattle.std.proofs.Common.{◌≡◌, ◌+◌, ◌≤◌, drop}
use Rattle.gopher_catalogue.specs.Tables.{Extends, after_mentions, drops}
use Rattle.gopher_catalogue.proofs.frontier.known.KnownPlaces.mention_seeds.Given as goal

abbrev pub invariant-loop-seed : goal.invariant-loop-seed
invariant-loop-seed l =
    record {
      places : after_mentions l.limit l.self.places (drop l.seed-index l.seeds) ≡ after_mentions l.limit l.initial.self.places l.seeds;
      dropped : l.dropped + drops l.limit l.self.places (drop l.seed-index l.seeds) ≡ drops l.limit l.initial.self.places l.seeds;
      few : l.dropped ≤ l.seed-index;
      grows : Extends l.initial.self l.self;
    }
