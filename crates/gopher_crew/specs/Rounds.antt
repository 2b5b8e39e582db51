-- What a worker fetched and recorded, round after round.
use Rattle.std.specs.Prelude.{ℕ, ◌≡◌, ◌+◌, ◌*◌, ◌≤◌, ◌⊎◌, min, Bool, true, false, List, [], ◌∷◌, ◌++◌, Result, Ok, Err}
use Rattle.std.specs.Global.{Vec}
use mathlib.Core.List.{IsPrefix}
use Rattle.gopher_item.specs.Place.{PlaceData}
use Rattle.gopher_item.specs.Scope.{ScopeData}
use Rattle.gopher_text.specs.declared.reply_reader.TheConstants.{MAX_REPLY}
use Rattle.gopher_page.specs.Page.{PageData, page_of}
use Rattle.gopher_catalogue.specs.Closure.{OutcomeData, Fetched, Unfetched}
use Rattle.gopher_catalogue.specs.declared.event.EventData.{EventData}
use Rattle.gopher_catalogue.specs.declared.event.EventData.TheVariants.{Found, Failed}
use Rattle.gopher_catalogue.specs.declared.event.Why.{Why}
use Rattle.gopher_catalogue.specs.declared.event.Why.TheVariants.{NoMemory}
use Rattle.gopher_catalogue.specs.Opening.{OpeningData}
use Rattle.gopher_catalogue.specs.Legal.{IsLegal}
use Rattle.gopher_catalogue.specs.Step.{Take}
use Rattle.gopher_item.specs.Leads.{Leads}
use Rattle.gopher_crew.specs.Admitted.{EventRule, MayAdd}
use Rattle.gopher_crew.specs.Share.{ShareData, Rises}
use Rattle.gopher_crew.specs.Kept.{Later, Claims, RefusesFailure, IsOpeningOf}
use Rattle.gopher_crew.specs.declared.working.Outcome.{Outcome}
use Rattle.gopher_crew.specs.declared.working.Outcome.TheVariants as outcome

-- ---- a worker

-- a worker between its rounds: its fetcher, its share, and the numbers of pages that it handed in
-- and of places that it failed
pub record WorkerData (F : Type 0) : Type 0 where
  pub fetcher : F
  pub share : ShareData
  pub found : ℕ
  pub failed : ℕ

-- the worker that begins with this fetcher and this share
abbrev pub begun : {F : Type 0} → F × ShareData → WorkerData F
begun pair = record { fetcher = pair.0; share = pair.1; found = 0; failed = 0 }

-- a fetcher's number of calls after one more
abbrev pub one_more_call : ℕ → ℕ
one_more_call calls = min (calls + 1) 18446744073709551615

-- a worker's number of pages or of places after one more
abbrev pub one_more_outcome : ℕ → ℕ
one_more_outcome outcomes = min (outcomes + 1) 4294967295

-- ---- the event of an outcome

-- the outcome of a fetch by its result
abbrev pub outcome_of : Result (Vec ℕ) Why → OutcomeData
outcome_of (Ok bytes) = Fetched bytes.items
outcome_of (Err why) = Unfetched why

-- the event records this outcome of a fetch of a place: the page of its bytes, or the reason why
-- there are none. Out of memory may be recorded in the place of any outcome
abbrev pub IsEventOf : ScopeData → ℕ → PlaceData → OutcomeData → EventData → Type 0
IsEventOf scope number place outcome (Found n page) =
    (n ≡ number)
    × ((bytes : List ℕ) × (outcome ≡ Fetched bytes) × (page ≡ page_of scope place bytes))
IsEventOf scope number place outcome (Failed n why) =
    (n ≡ number) × ((outcome ≡ Unfetched why) ⊎ (why ≡ NoMemory))
IsEventOf scope number place outcome event = ⊥

-- the event was added to a record that begins with what the share had seen. The share counts the
-- event, and then has seen the legal record that ends with it
pub record Adds (event : EventData) (old new : ShareData) : Type 0 where
  pub before : List EventData
  pub begins : IsPrefix old.seen before
  pub is_after : new.seen ≡ before ++ event ∷ []
  pub is_legal : IsLegal new.seen
  pub counts : Rises 1 old new

-- the page of a number was added, or nothing was
abbrev pub AddsPageIf : Bool → ℕ → PageData → ShareData → ShareData → Type 0
AddsPageIf true number page old new = Adds (Found number page) old new
AddsPageIf false number page old new = Rises 0 old new

-- nothing was added: on the record that the share then has seen, the number isn't out
pub record AddsNothing (number : ℕ) (old new : ShareData) : Type 0 where
  pub refuses : RefusesFailure number new
  pub counts : Rises 0 old new

-- why a number fails for which there is a page, or the reason why there is none
abbrev pub reason_of : Result PageData Why → Why
reason_of (Ok page) = NoMemory
reason_of (Err why) = why

-- what became of a number, for which there was a page or the reason why there is none. The outcome
-- has the reason of the event that was added
abbrev pub HandsIn : Outcome → ℕ → Result PageData Why → ShareData → ShareData → Type 0
HandsIn outcome.Found number (Ok page) old new = Adds (Found number page) old new
HandsIn outcome.Found number (Err why) old new = ⊥
HandsIn (outcome.Failed why) number settled old new =
    (why ≡ reason_of settled) × Adds (Failed number why) old new
HandsIn outcome.Refused number settled old new = AddsNothing number old new

-- ---- what the desk's rule admits

-- the rule admits what `HandsIn` may add
abbrev pub MayHandIn : EventRule → ℕ → Result PageData Why → List EventData → Type 0
MayHandIn admits number (Ok page) seen =
    MayAdd admits seen (Found number page) × MayAdd admits seen (Failed number NoMemory)
MayHandIn admits number (Err why) seen = MayAdd admits seen (Failed number why)

-- the rule admits each event that records an outcome of a fetch, at a desk that was opened over
-- this record
abbrev pub AdmitsFetched : {F : Type 0} → EventRule
    → (F → F → PlaceData → ℕ → OutcomeData → Type 0) → List EventData → Type 0
AdmitsFetched {F} admits fetches opened =
    (opening : OpeningData) (old new : F) (number : ℕ) (place : PlaceData) (outcome : OutcomeData)
    (event : EventData) → IsOpeningOf opened opening → fetches old new place MAX_REPLY outcome
    → IsEventOf opening.scope number place outcome event → admits place event

-- ---- rounds

-- the numbers of pages that were handed in, and of places that were failed, after an event
abbrev pub found_after : EventData → ℕ → ℕ
found_after (Found number page) found = one_more_outcome found
found_after event found = found

abbrev pub failed_after : EventData → ℕ → ℕ
failed_after (Failed number why) failed = one_more_outcome failed
failed_after event failed = failed

-- the worker added an event that records the outcome, and counted it
pub record RecordsOutcome {F : Type 0} (scope : ScopeData) (number : ℕ) (place : PlaceData)
    (outcome : OutcomeData) (old new : WorkerData F) : Type 0 where
  pub event : EventData
  pub is_event : IsEventOf scope number place outcome event
  pub adds : Adds event old.share new.share
  pub found : new.found ≡ found_after event old.found
  pub failed : new.failed ≡ failed_after event old.failed

-- the worker added nothing, because the number was no longer out
pub record FindsNotOut {F : Type 0} (number : ℕ) (old new : WorkerData F) : Type 0 where
  pub nothing : AddsNothing number old.share new.share
  pub found : new.found ≡ old.found
  pub failed : new.failed ≡ old.failed

-- of a worker, at most what its share has seen changed
pub record OnlySees {F : Type 0} (old new : WorkerData F) : Type 0 where
  pub fetcher : new.fetcher ≡ old.fetcher
  pub share : Rises 0 old.share new.share
  pub found : new.found ≡ old.found
  pub failed : new.failed ≡ old.failed

module _ {F : Type 0} (fetches : F → F → PlaceData → ℕ → OutcomeData → Type 0) (called : F → ℕ)
    (opened : List EventData) where
  -- the place was fetched once, up to 1,048,576 bytes, and its outcome was recorded, at a desk that
  -- was opened over this record
  pub record Reports (number : ℕ) (place : PlaceData) (old new : WorkerData F) : Type 0 where
    pub opening : OpeningData
    pub opens : IsOpeningOf opened opening
    pub outcome : OutcomeData
    pub fetched : fetches old.fetcher new.fetcher place MAX_REPLY outcome
    pub once : called new.fetcher ≡ one_more_call (called old.fetcher)
    pub recorded : RecordsOutcome opening.scope number place outcome old new
        ⊎ FindsNotOut number old new

  -- a round of a worker: it claimed the first waiting place, fetched just that place once, and its
  -- outcome was recorded
  pub record Round (old new : WorkerData F) : Type 0 where
    pub number : ℕ
    pub place : PlaceData
    pub claimed : ShareData
    pub claims : Later old.share.seen (Claims (Take number place) claimed)
    pub counts : Rises 1 old.share claimed
    pub reported : Reports number place
        (record { fetcher = old.fetcher; share = claimed; found = old.found; failed = old.failed })
        new

  -- a worker's rounds, one after another, and its stop, at which it fetched and added nothing
  pub record WorksRounds (old new : WorkerData F) : Type 0 where
    pub last : WorkerData F
    pub rounds : Leads Round old last
    pub stops : OnlySees last new

-- ---- counts

-- a worker's share rose by at least two for each page that it handed in and each place that it
-- failed, and by at most two for each call of its fetcher, unless the count of its calls is at its
-- last value
pub record CountsRounds {F : Type 0} (called : F → ℕ) (old new : WorkerData F) : Type 0 where
  pub at_least : old.share.events + 2 * (new.found + new.failed)
      ≤ new.share.events + 2 * (old.found + old.failed)
  pub at_most : (called new.fetcher ≡ 18446744073709551615)
      ⊎ (new.share.events + 2 * called old.fetcher ≤ old.share.events + 2 * called new.fetcher)

-- each worker's rounds are counted
abbrev pub RoundsAreCounted : {F : Type 0} → (F → F → PlaceData → ℕ → OutcomeData → Type 0)
    → (F → ℕ) → Type 0
RoundsAreCounted {F} fetches called =
    (opened : List EventData) (old new : WorkerData F)
    → WorksRounds fetches called opened old new → CountsRounds called old new
