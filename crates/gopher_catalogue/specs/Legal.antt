-- The records that a sequential catalogue can have, and the laws of each such record, which are the
-- contracts of the functions of `laws`.
use Rattle.std.specs.Prelude.{◌≡◌, ℕ, ◌+◌, ◌≤◌, ◌<◌, true, ◌&&◌, List, ◌∷◌, length, take, filter, count_by, Some, slice_get, ◌==◌, nat_lt, IsTrue, if◌then◌else◌}
use Rattle.std.specs.List.{list_all, All}
use Rattle.gopher_item.specs.Place.{PlaceData}
use Rattle.gopher_item.specs.Scope.{allows, IsAllowed}
use Rattle.gopher_item.specs.declared.limits.TheConstants.{MAX_PLACES, MAX_TRIES}
use Rattle.gopher_catalogue.specs.Event.{OpeningData, EventData, Opened, Claimed, Found, Failed}
use Rattle.gopher_catalogue.specs.Frontier.{known, claims, finds, outcomes, numbers, waiting, is_out, out, done}

-- 1 to 65,536 places, 1 to 5 tries, and seeds that the scope allows
pub record IsLegalOpening (opening : OpeningData) : Type 0 where
  pub some_place : 1 ≤ opening.limit
  pub few_places : opening.limit ≤ MAX_PLACES
  pub some_try : 1 ≤ opening.tries
  pub few_tries : opening.tries ≤ MAX_TRIES
  pub allowed_seeds : IsTrue (list_all (allows opening.scope) opening.seeds)

-- a number of a known place that is out
pub record IsOut (opening : OpeningData) (events : List EventData) (number : ℕ) : Type 0 where
  pub is_known : number < length (known opening events)
  pub is_out : is_out events number ≡ true

-- an event may follow these if it claims the first waiting number, or is an outcome of a number
-- that is out; a page must be of the number's place
abbrev pub MayFollow : OpeningData → List EventData → EventData → Type 0
MayFollow opening before (Opened other) = ⊥
MayFollow opening before (Claimed number) = slice_get (waiting opening before) 0 ≡ Some number
MayFollow opening before (Found number page) =
    IsOut opening before number × (slice_get (known opening before) number ≡ Some page.place)
MayFollow opening before (Failed number why) = IsOut opening before number

-- each event may follow those before it
abbrev pub FollowEachOther : OpeningData → List EventData → Type 0
FollowEachOther opening events =
    (k : ℕ) (event : EventData) → slice_get events k ≡ Some event
    → MayFollow opening (take k events) event

-- a legal record: its first event is a legal opening, and each later one may follow those before it
abbrev pub IsLegal : List EventData → Type 0
IsLegal (Opened opening ∷ events) = IsLegalOpening opening × FollowEachOther opening events
IsLegal record_ = ⊥

-- ---- laws of places

-- the scope allows each known place
abbrev pub KnownPlacesAreAllowed : Type 0
KnownPlacesAreAllowed =
    (opening : OpeningData) (events : List EventData) → IsLegal (Opened opening ∷ events)
    → All (IsAllowed opening.scope) (known opening events)

-- each known place has one number
abbrev pub KnownPlacesAreDistinct : Type 0
KnownPlacesAreDistinct =
    (opening : OpeningData) (events : List EventData) (i j : ℕ) (place : PlaceData)
    → slice_get (known opening events) i ≡ Some place
    → slice_get (known opening events) j ≡ Some place → i ≡ j

-- ---- laws of claims

-- a place is out at most once at a time: each claim but the last has its outcome, and no claim has
-- two
abbrev pub NoPlaceIsOutTwice : Type 0
NoPlaceIsOutTwice =
    (opening : OpeningData) (events : List EventData) (number : ℕ)
    → IsLegal (Opened opening ∷ events)
    → (claims events number ≤ outcomes events number + 1)
    × (outcomes events number ≤ claims events number)

-- a place that is claimed was not found before
abbrev pub NoClaimAfterAFind : Type 0
NoClaimAfterAFind =
    (opening : OpeningData) (events : List EventData) (k number : ℕ)
    → IsLegal (Opened opening ∷ events) → slice_get events k ≡ Some (Claimed number)
    → finds (take k events) number ≡ 0

-- no place is found twice, and none is claimed more often than its tries
abbrev pub NoMoreClaimsThanTries : Type 0
NoMoreClaimsThanTries =
    (opening : OpeningData) (events : List EventData) (number : ℕ)
    → IsLegal (Opened opening ∷ events)
    → (finds events number ≤ 1) × (claims events number ≤ opening.tries)

-- ---- laws of states

-- how often a list contains a number
abbrev pub times_listed : List ℕ → ℕ → ℕ
times_listed list number = count_by (λ other. number == other) list

-- exactly one of the three lists contains the number of each known place, once; none contains any
-- other number
abbrev pub EachKnownPlaceHasOneState : Type 0
EachKnownPlaceHasOneState =
    (opening : OpeningData) (events : List EventData) (number : ℕ)
    → IsLegal (Opened opening ∷ events) →
    times_listed (waiting opening events) number + times_listed (out opening events) number
    + times_listed (done opening events) number
    ≡ (if nat_lt number (length (known opening events)) then 1 else 0)

-- the sizes of the three lists add up to the number of known places
abbrev pub StateSizesAddUp : Type 0
StateSizesAddUp =
    (opening : OpeningData) (events : List EventData) → IsLegal (Opened opening ∷ events)
    → length (known opening events) ≡ length (waiting opening events) + length (out opening events)
    + length (done opening events)

-- ---- laws of one try

-- with one try no place is claimed twice
abbrev pub OneTryIsOneClaim : Type 0
OneTryIsOneClaim =
    (opening : OpeningData) (events : List EventData) (number : ℕ)
    → IsLegal (Opened opening ∷ events) → opening.tries ≡ 1 → claims events number ≤ 1

-- the states with one try: a waiting place was never claimed, a place that is out was claimed and
-- has no outcome, and a place that is done was found or failed
pub record HasSimpleStates (opening : OpeningData) (events : List EventData) : Type 0 where
  pub waiting_is : waiting opening events
      ≡ filter (λ number. claims events number == 0) (numbers opening events)
  pub out_is : out opening events
      ≡ filter (λ number. nat_lt 0 (claims events number) && (outcomes events number == 0))
      (numbers opening events)
  pub done_is : done opening events
      ≡ filter (λ number. nat_lt 0 (outcomes events number)) (numbers opening events)

abbrev pub OneTryHasSimpleStates : Type 0
OneTryHasSimpleStates =
    (opening : OpeningData) (events : List EventData) → IsLegal (Opened opening ∷ events)
    → opening.tries ≡ 1 → HasSimpleStates opening events

-- ---- laws of the record

-- a prefix of a legal record that contains its opening is legal
abbrev pub BeginningsAreLegal : Type 0
BeginningsAreLegal =
    (record_ : List EventData) (n : ℕ) → IsLegal record_ → 1 ≤ n → IsLegal (take n record_)

-- a legal record has at most 655,361 events
abbrev pub RecordsAreShort : Type 0
RecordsAreShort = (record_ : List EventData) → IsLegal record_ → length record_ ≤ 655361
