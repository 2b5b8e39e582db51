-- A host in memory: its replies, and the outcomes of fetches from it.
use Rattle.std.specs.Prelude.{ℕ, ◌≡◌, ◌<◌, ◌≤◌, ◌⊎◌, Bool, true, false, List, [], ◌∷◌, length, Option, None, Some, nat_eq, nat_le, IsTrue, if◌then◌else◌}
use Rattle.std.specs.Cmp.Lexicographic.{pointwise}
use Rattle.gopher_item.specs.Place.{PlaceData}
use Rattle.gopher_item.specs.Scope.{ScopeData}
use Rattle.gopher_page.specs.Query.{TermData}
use Rattle.gopher_index.specs.declared.hit.Hit.{Hit}
use Rattle.gopher_catalogue.specs.Closure.{OutcomeData, Fetched, Unfetched, OutcomeTable, FinalAnswer, IsTold}
use Rattle.gopher_catalogue.specs.Opening.{OpeningData}
use Rattle.gopher_catalogue.specs.declared.event.EventData.{EventData}
use Rattle.gopher_catalogue.specs.declared.event.EventData.TheVariants.{Failed}
use Rattle.gopher_catalogue.specs.declared.event.Why.TheVariants.{Read, TooLong, NoMemory}
use Rattle.gopher_crew.specs.Admitted.{AllAdmitted}
use Rattle.gopher_crew.specs.Kept.{IsOpeningOf}

-- the reply to a selector, if there is one
abbrev pub burrow_reply : List (List ℕ × List ℕ) → List ℕ → Option (List ℕ)
burrow_reply [] selector = None
burrow_reply (row ∷ rows) selector =
    if pointwise nat_eq row.0 selector then Some row.1 else burrow_reply rows selector

-- the outcome of a fetch of at most `limit` bytes, by the host's reply: all of it, unless it is too
-- long or memory runs out
abbrev pub IsOutcomeOf : Option (List ℕ) → ℕ → OutcomeData → Type 0
IsOutcomeOf (Some reply) limit (Fetched bytes) = (bytes ≡ reply) × (length reply ≤ limit)
IsOutcomeOf (Some reply) limit (Unfetched TooLong) = limit < length reply
IsOutcomeOf (Some reply) limit (Unfetched NoMemory) = Unit {0}
IsOutcomeOf (Some reply) limit (Unfetched why) = ⊥
IsOutcomeOf None limit (Fetched bytes) = ⊥
IsOutcomeOf None limit (Unfetched why) = why ≡ Read

-- ---- what a crawl of the host records

-- the outcome of a whole fetch, by the host's reply
abbrev pub outcome_told : Option (List ℕ) → OutcomeData
outcome_told (Some reply) =
    if nat_le (length reply) 1048576 then Fetched reply else Unfetched TooLong
outcome_told None = Unfetched Read

-- the outcome of each place
abbrev pub table_of : List (List ℕ × List ℕ) → OutcomeTable
table_of replies place = Some (outcome_told (burrow_reply replies place.selector))

-- the event is a failure because memory ran out
abbrev pub is_lack : EventData → Bool
is_lack (Failed number NoMemory) = true
is_lack event = false

-- the event is the outcome that the table gives for the place, unless memory ran out
abbrev pub MatchesTable : ScopeData → List (List ℕ × List ℕ) → PlaceData → EventData → Type 0
MatchesTable scope replies place event =
    IsTrue (is_lack event) ⊎ IsTold scope place (table_of replies place) (Some event)

-- each outcome in the record is that of its place's reply, unless memory ran out
abbrev pub AllMatch : ScopeData → List (List ℕ × List ℕ) → List EventData → Type 0
AllMatch scope replies record_ = AllAdmitted (MatchesTable scope replies) record_

-- the crawl of this record has this scope
abbrev pub HasScope : List EventData → ScopeData → Type 0
HasScope record_ scope =
    (opening : OpeningData) → IsOpeningOf record_ opening → opening.scope ≡ scope

-- the hits are the final ones of each host whose outcomes alone the record has
abbrev pub AreFinal : List EventData → List TermData → List Hit → Type 0
AreFinal record_ query hits =
    (opening : OpeningData) (replies : List (List ℕ × List ℕ)) → IsOpeningOf record_ opening
    → AllMatch opening.scope replies record_
    → FinalAnswer opening.scope opening.seeds (table_of replies) query hits
