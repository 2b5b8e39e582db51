-- The tables of a frontier, how they agree with each other, and the tables after each call.
use Rattle.std.specs.Prelude.{◌≡◌, ℕ, ◌+◌, ◌-◌, ◌*◌, ◌^◌, ◌<◌, ◌≤◌, Bool, true, List, [], ◌∷◌, ◌++◌, Some, length, replicate, take, drop, count_by, slice_get, nat_lt, if◌then◌else◌}
use Rattle.std.specs.List.{range_with_len}
use Rattle.std.specs.Arc.{arc_value}
use Rattle.std.specs.declared.sync.Arc.{Arc}
use Rattle.gopher_item.specs.Place.{PlaceData}
use Rattle.gopher_item.specs.Scope.{ScopeData}
use Rattle.gopher_item.specs.declared.limits.TheConstants.{MAX_PLACES, MAX_TRIES}
use Rattle.gopher_text.specs.declared.reply_reader.TheConstants.{MAX_REPLY}
use Rattle.gopher_catalogue.specs.declared.frontier.sizes.Added.{Added}
use Rattle.gopher_catalogue.specs.declared.frontier.sizes.Status.{Status}
use Rattle.gopher_catalogue.specs.Legal.{times_listed}
use Rattle.gopher_catalogue.specs.Tables.{KnownData, Extends, Mentions, known_with, claims_at, is_out_at, after_mentions, allowed, drops, unclaimed, ended, with_standing}

-- the limits of known places and of claims of a place, the known places, of which the last `fresh`
-- don't wait yet, the waiting numbers, and how many places are out, are done and were dropped
pub record FrontierData : Type 0 where
  pub limit : ℕ
  pub tries : ℕ
  pub known : KnownData
  pub fresh : ℕ
  pub waiting : List ℕ
  pub out : ℕ
  pub done : ℕ
  pub dropped : ℕ

abbrev pub frontier_with : ℕ → ℕ → KnownData → ℕ → List ℕ → ℕ → ℕ → ℕ → FrontierData
frontier_with limit tries known fresh waiting out done dropped =
    record {
      limit = limit;
      tries = tries;
      known = known;
      fresh = fresh;
      waiting = waiting;
      out = out;
      done = done;
      dropped = dropped;
    }

-- ---- the states of places

-- the place of a number is known and isn't fresh
abbrev pub IsSettled : FrontierData → ℕ → Type 0
IsSettled frontier number = number + frontier.fresh < length frontier.known.places

-- a number waits at most once, and doesn't wait while it is out; one that waits has tries left; one
-- that is fresh or unknown was never claimed
pub record HasState (frontier : FrontierData) (number : ℕ) : Type 0 where
  pub once : times_listed frontier.waiting number
      + (if is_out_at frontier.known.standings number then 1 else 0) ≤ 1
  pub if_waits : 1 ≤ times_listed frontier.waiting number
      → IsSettled frontier number × (claims_at frontier.known.standings number < frontier.tries)
  pub if_out : is_out_at frontier.known.standings number ≡ true → IsSettled frontier number
  pub if_fresh : length frontier.known.places ≤ number + frontier.fresh
      → claims_at frontier.known.standings number ≡ 0

-- at most 65,536 places, and 1 to 5 tries
pub record AreLimits (limit tries : ℕ) : Type 0 where
  pub few_places : limit ≤ MAX_PLACES
  pub some_try : 1 ≤ tries
  pub few_tries : tries ≤ MAX_TRIES

-- the tables agree: each known place that isn't fresh waits, is out or is done, and the queue has
-- room for each that is fresh or out; each page that is done dropped less than 2^32 mentions
pub record IsConsistent (frontier : FrontierData) (room : ℕ) : Type 0 where
  pub limits : AreLimits frontier.limit frontier.tries
  pub few_places : length frontier.known.places ≤ frontier.limit
  pub standings : length frontier.known.standings ≡ length frontier.known.places
  pub sizes : length frontier.waiting + frontier.out + frontier.done + frontier.fresh
      ≡ length frontier.known.places
  pub out_counted : frontier.out ≡ count_by (λ standing. standing.is_out) frontier.known.standings
  pub states : (number : ℕ) → HasState frontier number
  pub few_dropped : frontier.dropped < 2 ^ 63 + 2 ^ 32 * frontier.done
  pub has_room : frontier.fresh + frontier.out ≤ room

-- ---- reading

abbrev pub sizes_of : FrontierData → Status
sizes_of frontier =
    record {
      known = length frontier.known.places;
      waiting = length frontier.waiting;
      out = frontier.out;
      done = frontier.done;
      dropped = frontier.dropped;
    }

-- the number waits first, and this is its place
abbrev pub IsFirst : {Z : Type 0} → FrontierData → ℕ → Arc PlaceData Z → Type 0
IsFirst frontier number place =
    (slice_get frontier.waiting 0 ≡ Some number)
    × (slice_get frontier.known.places number ≡ Some (arc_value place))

-- ---- learning

-- everything stays except the known places and how many of them are fresh
pub record KeepsCounts (old new : FrontierData) : Type 0 where
  pub limit : new.limit ≡ old.limit
  pub tries : new.tries ≡ old.tries
  pub waiting : new.waiting ≡ old.waiting
  pub out : new.out ≡ old.out
  pub done : new.done ≡ old.done
  pub dropped : new.dropped ≡ old.dropped

-- the tables after these mentions, of which `dropped` were dropped; the new places are fresh
pub record Learned (mentions : List PlaceData) (before after : FrontierData) (dropped : ℕ)
    : Type 0 where
  pub mentions_are : Mentions before.limit mentions before.known after.known dropped
  pub grows : Extends before.known after.known
  pub keeps : KeepsCounts before after
  pub fresh : after.fresh + length before.known.places
      ≡ before.fresh + length after.known.places

-- the frontier learned the links that the scope allows, up to its limit of places, and returned
-- `added`
pub record Learns (scope : ScopeData) (links : List PlaceData) (before after : FrontierData)
    (added : Added) : Type 0 where
  pub learned : Learned (allowed scope links) before after added.dropped
  pub fresh : added.fresh + length before.known.places ≡ length after.known.places
  pub few : added.dropped ≤ MAX_REPLY

-- the frontier without its fresh places
abbrev pub without_fresh : FrontierData → FrontierData
without_fresh frontier =
    let settled : ℕ = length frontier.known.places - frontier.fresh in
    record frontier {
      known =
          known_with (take settled frontier.known.places) (take settled frontier.known.standings);
      fresh = 0;
    }

-- ---- the tables after each call

-- the frontier of a crawl that begins
pub record Begins (limit tries : ℕ) (seeds : List PlaceData) (frontier : FrontierData)
    : Type 0 where
  pub limit_is : frontier.limit ≡ limit
  pub tries_is : frontier.tries ≡ tries
  pub places : frontier.known.places ≡ after_mentions limit [] seeds
  pub standings : frontier.known.standings ≡ replicate (length frontier.known.places) unclaimed
  pub fresh : frontier.fresh ≡ 0
  pub waiting : frontier.waiting ≡ range_with_len 0 (length frontier.known.places)
  pub out : frontier.out ≡ 0
  pub done : frontier.done ≡ 0
  pub dropped : frontier.dropped ≡ drops limit [] seeds
  pub few_dropped : frontier.dropped ≤ length seeds

-- the first waiting number was claimed
abbrev pub after_claim : FrontierData → ℕ → FrontierData
after_claim frontier number =
    record frontier {
      known =
          with_standing frontier.known number
          (record { claims = claims_at frontier.known.standings number + 1; is_out = true });
      waiting = drop 1 frontier.waiting;
      out = frontier.out + 1;
    }

-- the claim of a number ended
abbrev pub after_outcome : FrontierData → ℕ → FrontierData
after_outcome frontier number =
    record frontier {
      known =
          with_standing frontier.known number (ended (claims_at frontier.known.standings number));
      out = frontier.out - 1;
    }

-- a number was found; the fresh places wait
abbrev pub after_find : FrontierData → ℕ → ℕ → FrontierData
after_find frontier number dropped =
    let settled : ℕ = length frontier.known.places - frontier.fresh in
    record (after_outcome frontier number) {
      fresh = 0;
      waiting = frontier.waiting ++ range_with_len settled frontier.fresh;
      done = frontier.done + 1;
      dropped = frontier.dropped + dropped;
    }

-- a number failed; it waits again if it has tries left
abbrev pub after_failure : FrontierData → ℕ → FrontierData
after_failure frontier number =
    let again : Bool = nat_lt (claims_at frontier.known.standings number) frontier.tries in
    record (after_outcome frontier number) {
      waiting = if again then frontier.waiting ++ number ∷ [] else frontier.waiting;
      done = if again then frontier.done else frontier.done + 1;
    }
