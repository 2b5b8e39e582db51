use Rattle.std.proofs.Common.{◌≡◌, ◌+◌, ◌≤◌, filter, drop}
use Rattle.gopher_item.specs.Scope.{allows}
use Rattle.gopher_catalogue.specs.Tables.{Extends, after_mentions, drops}
use Rattle.gopher_catalogue.proofs.frontier.known.KnownPlaces.mention_links.Given as goal

abbrev pub invariant-loop-index : goal.invariant-loop-index
invariant-loop-index l =
    record {
      places : after_mentions l.limit l.self.places (filter (allows l.scope) (drop l.index l.links)) ≡ after_mentions l.limit l.initial.self.places (filter (allows l.scope) l.links);
      dropped : l.dropped + drops l.limit l.self.places (filter (allows l.scope) (drop l.index l.links)) ≡ drops l.limit l.initial.self.places (filter (allows l.scope) l.links);
      few : l.dropped ≤ l.index;
      grows : Extends l.initial.self l.self;
    }
