-- The tables of a crawl: the known places, and the queue of waiting ones.
use Rattle.std.specs.Prelude.{◌≡◌, ℕ, ◌+◌, ◌-◌, Bool, false, ◌&&◌, ◌||◌, not, List, [], ◌∷◌, ◌++◌, length, filter, replicate, drop, slice_get, slice_set, nat_le, if◌then◌else◌}
use Rattle.std.specs.Option.{option_map_or}
use Rattle.std.specs.Vec.{vec_capacity, vec_len}
use Rattle.std.specs.declared.vec.Vec.{Vec}
use Rattle.gopher_item.specs.Place.{PlaceData, is_among}
use Rattle.gopher_item.specs.Scope.{ScopeData, allows}
use Rattle.gopher_catalogue.specs.declared.frontier.known.Standing.{Standing}

-- the known places and the state of each
pub record KnownData : Type 0 where
  pub places : List PlaceData
  pub standings : List Standing

abbrev pub known_with : List PlaceData → List Standing → KnownData
known_with places standings = record { places = places; standings = standings }

-- a place that was never claimed
abbrev pub unclaimed : Standing
unclaimed = record { claims = 0; is_out = false }

-- a place that was claimed so often and isn't out
abbrev pub ended : ℕ → Standing
ended claims = record { claims = claims; is_out = false }

-- how often a number was claimed, and whether it is out; an unknown number was never claimed
abbrev pub claims_at : List Standing → ℕ → ℕ
claims_at standings number =
    option_map_or (λ standing. standing.claims) (slice_get standings number) 0

abbrev pub is_out_at : List Standing → ℕ → Bool
is_out_at standings number =
    option_map_or (λ standing. standing.is_out) (slice_get standings number) false

-- the known places are those before, with unchanged states, and more that were never claimed
pub record Extends (old new : KnownData) : Type 0 where
  pub more : List PlaceData
  pub places : new.places ≡ old.places ++ more
  pub standings : new.standings ≡ old.standings ++ replicate (length more) unclaimed

-- the same places, of which one has this state
abbrev pub with_standing : KnownData → ℕ → Standing → KnownData
with_standing known number standing =
    record known { standings = slice_set known.standings number standing }

-- a mention is dropped if its place is unknown and the limit of places is reached
abbrev pub is_dropped : ℕ → List PlaceData → PlaceData → Bool
is_dropped limit places place = not (is_among places place) && nat_le limit (length places)

-- the known places after one more mention, and after several
abbrev pub after_mention : ℕ → List PlaceData → PlaceData → List PlaceData
after_mention limit places place =
    if is_among places place || nat_le limit (length places) then places else places ++ place ∷ []

abbrev pub after_mentions : ℕ → List PlaceData → List PlaceData → List PlaceData
after_mentions limit places [] = places
after_mentions limit places (mention ∷ mentions) =
    after_mentions limit (after_mention limit places mention) mentions

-- the number of these mentions that are dropped
abbrev pub drops : ℕ → List PlaceData → List PlaceData → ℕ
drops limit places [] = 0
drops limit places (mention ∷ mentions) =
    (if is_dropped limit places mention then 1 else 0)
    + drops limit (after_mention limit places mention) mentions

-- the links that the scope allows
abbrev pub allowed : ScopeData → List PlaceData → List PlaceData
allowed scope links = filter (allows scope) links

-- the places after these mentions, of which `dropped` were dropped
pub record Mentions (limit : ℕ) (mentions : List PlaceData) (old new : KnownData) (dropped : ℕ)
    : Type 0 where
  pub places : new.places ≡ after_mentions limit old.places mentions
  pub dropped_is : dropped ≡ drops limit old.places mentions

-- ---- the queue

-- the waiting numbers, and how many more fit without allocating
pub record QueueData : Type 0 where
  pub waiting : List ℕ
  pub room : ℕ

-- the queue with these entries, of which the first `taken` were taken
abbrev pub queue_with : {Z : Type 0} → Vec ℕ Z → ℕ → QueueData
queue_with entries taken =
    record { waiting = drop taken entries.items; room = vec_capacity entries - vec_len entries }
