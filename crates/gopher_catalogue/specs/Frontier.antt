-- The crawl frontier: what a record says of places. A record is an opening and the events after it,
-- oldest first. Each definition reads the whole record; the code keeps tables instead.
use Rattle.std.specs.Prelude.{ℕ, ◌+◌, ◌-◌, Bool, true, false, ◌||◌, not, List, [], ◌∷◌, ◌++◌, length, take, drop, filter, count_by, ◌==◌, nat_lt, nat_le, if◌then◌else◌}
use Rattle.std.specs.List.{flat_map, range_with_len}
use Rattle.gopher_item.specs.Place.{PlaceData, distinct, is_among}
use Rattle.gopher_item.specs.Scope.{allows}
use Rattle.gopher_catalogue.specs.Event.{OpeningData, EventData, Claimed, Found, Failed}

-- ---- places

-- the links of an event's page that the scope allows
abbrev pub mentioned : OpeningData → EventData → List PlaceData
mentioned opening (Found number page) = filter (allows opening.scope) page.links
mentioned opening event = []

-- each mention of a place, in order: the seeds, then the links of the pages found
unfoldable pub mentions : OpeningData → List EventData → List PlaceData
mentions opening events = opening.seeds ++ flat_map (mentioned opening) events

-- the known places: the distinct places mentioned, in the order of first mention, up to the limit
unfoldable pub known : OpeningData → List EventData → List PlaceData
known opening events = take opening.limit (distinct (mentions opening events))

-- the number of mentions of places that aren't known, with repeats
unfoldable pub dropped : OpeningData → List EventData → ℕ
dropped opening events =
    count_by (λ place. not (is_among (known opening events) place)) (mentions opening events)

-- ---- events of one number

abbrev pub is_claim_of : ℕ → EventData → Bool
is_claim_of number (Claimed other) = number == other
is_claim_of number event = false

abbrev pub is_find_of : ℕ → EventData → Bool
is_find_of number (Found other page) = number == other
is_find_of number event = false

abbrev pub is_failure_of : ℕ → EventData → Bool
is_failure_of number (Failed other why) = number == other
is_failure_of number event = false

abbrev pub is_claim : EventData → Bool
is_claim (Claimed number) = true
is_claim event = false

-- how often a number was claimed, found or failed
unfoldable pub claims : List EventData → ℕ → ℕ
claims events number = count_by (is_claim_of number) events

unfoldable pub finds : List EventData → ℕ → ℕ
finds events number = count_by (is_find_of number) events

unfoldable pub failures : List EventData → ℕ → ℕ
failures events number = count_by (is_failure_of number) events

-- the number of outcomes of a place
abbrev pub outcomes : List EventData → ℕ → ℕ
outcomes events number = finds events number + failures events number

-- ---- states

-- the numbers of the known places, in order
abbrev pub numbers : OpeningData → List EventData → List ℕ
numbers opening events = range_with_len 0 (length (known opening events))

-- the numbers that an event appends to the queue, after the events before it: those of the places
-- that become known, or its own if it failed with tries left
abbrev pub entered : OpeningData → List EventData → EventData → List ℕ
entered opening before (Found number page) =
    let old = length (known opening before) in
    range_with_len old (length (known opening (before ++ Found number page ∷ [])) - old)
entered opening before (Failed number why) =
    if nat_lt (claims before number) opening.tries then number ∷ [] else []
entered opening before event = []

abbrev pub entered_along : OpeningData → List EventData → List EventData → List ℕ
entered_along opening before [] = []
entered_along opening before (event ∷ events) =
    entered opening before event ++ entered_along opening (before ++ event ∷ []) events

-- every number that ever entered the queue, in order: the seeds first
unfoldable pub entries : OpeningData → List EventData → List ℕ
entries opening events = numbers opening [] ++ entered_along opening [] events

-- the numbers that wait to be claimed, in order; each claim takes the first
unfoldable pub waiting : OpeningData → List EventData → List ℕ
waiting opening events = drop (count_by is_claim events) (entries opening events)

-- a number is out while it has one claim more than outcomes
unfoldable pub is_out : List EventData → ℕ → Bool
is_out events number = claims events number == outcomes events number + 1

-- a number is done once it was found, or failed at its last try
unfoldable pub is_done : OpeningData → List EventData → ℕ → Bool
is_done opening events number =
    nat_lt 0 (finds events number) || nat_le opening.tries (failures events number)

unfoldable pub out : OpeningData → List EventData → List ℕ
out opening events = filter (is_out events) (numbers opening events)

unfoldable pub done : OpeningData → List EventData → List ℕ
done opening events = filter (is_done opening events) (numbers opening events)
