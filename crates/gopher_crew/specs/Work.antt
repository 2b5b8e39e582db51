-- What a worker does.
use Rattle.std.specs.Prelude.{ℕ, ◌≡◌, List, Option, Some, None, Result, Ok, Err}
use Rattle.std.specs.Arc.{arc_value}
use Rattle.std.specs.List.{AllZip, sum_by}
use mathlib.Core.List.{IsPrefix}
use Rattle.gopher_item.specs.Place.{PlaceData}
use Rattle.gopher_item.specs.Scope.{ScopeData}
use Rattle.gopher_page.specs.Page.{PageData, page_of}
use Rattle.gopher_catalogue.specs.declared.answer.Claim.{Claim}
use Rattle.gopher_catalogue.specs.Closure.{OutcomeData}
use Rattle.gopher_catalogue.specs.declared.event.EventData.{EventData}
use Rattle.gopher_catalogue.specs.Legal.{IsLegal}
use Rattle.gopher_catalogue.specs.Step.{Finished as FinishedTurn, turn_of}
use Rattle.gopher_catalogue.specs.declared.event.Why.{Why}
use Rattle.gopher_catalogue.specs.declared.event.Why.TheVariants.{NoMemory}
use Rattle.gopher_crew.specs.Share.{ShareData}
use Rattle.gopher_crew.specs.declared.working.Outcome.{Outcome}
use Rattle.gopher_crew.specs.declared.working.Outcome.TheVariants.{Found, Failed}
use Rattle.gopher_crew.specs.declared.working.Stop.{Stop}
use Rattle.gopher_crew.specs.declared.working.Stop.TheVariants.{Finished, NoMemory as NoMemoryStop}
use Rattle.gopher_crew.specs.declared.working.WorkEnd.{WorkEnd}
use Rattle.gopher_crew.specs.Kept.{LetsClaim}
use Rattle.gopher_crew.specs.Rounds.{WorkerData, begun, one_more_outcome, Reports, Round, OnlySees, WorksRounds}

-- the numbers of pages that a worker handed in, and of places that it failed, after an outcome
abbrev pub found_with : Outcome → ℕ → ℕ
found_with Found found = one_more_outcome found
found_with outcome found = found

abbrev pub failed_with : Outcome → ℕ → ℕ
failed_with (Failed why) failed = one_more_outcome failed
failed_with outcome failed = failed

-- a worker, without why it stopped
abbrev pub worker_data : {F C : Type 0} → WorkEnd F C → WorkerData F
worker_data worker =
    record {
      fetcher = worker.fetcher;
      share = worker.share;
      found = worker.found;
      failed = worker.failed;
    }

-- why a worker stopped: on the record that its share has seen, nothing waits and nothing is out, or
-- a place waits, whose claim ran out of memory
abbrev pub IsStop : Stop → ShareData → Type 0
IsStop Finished share = (turn_of share.seen ≡ FinishedTurn) × IsLegal share.seen
IsStop NoMemoryStop share = LetsClaim share

module _ {F C : Type 0} (fetches : F → F → PlaceData → ℕ → OutcomeData → Type 0) (called : F → ℕ)
    (opened : List EventData) where
  -- a worker fetched the place of a claim, and recorded the outcome
  abbrev pub ReportsOf : Claim → WorkEnd F C → WorkEnd F C → Type 0
  ReportsOf claim old new =
      Reports fetches called opened claim.number (arc_value claim.place)
      (worker_data old) (worker_data new)

  -- what a worker did: one round, or its stop
  abbrev pub WorksOnce : WorkEnd F C → WorkEnd F C → Option Stop → Type 0
  WorksOnce old new None = Round fetches called opened (worker_data old) (worker_data new)
  WorksOnce old new (Some stop) =
      IsStop stop new.share × OnlySees (worker_data old) (worker_data new)

  -- the rounds of a worker that began with this fetcher and this share
  abbrev pub RoundsFrom : F × ShareData → WorkEnd F C → Type 0
  RoundsFrom pair end = WorksRounds fetches called opened (begun pair) (worker_data end)

  -- what a worker did that began with this fetcher and this share: its rounds, and its stop
  pub record Works (pair : F × ShareData) (end : WorkEnd F C) : Type 0 where
    pub is_stop : IsStop end.stop end.share
    pub begins : IsPrefix pair.1.seen end.share.seen
    pub same_parts : end.share.parts ≡ pair.1.parts
    pub rounds : RoundsFrom pair end

  -- what a worker did that began with the fetcher and the share of this one
  abbrev pub WorksOn : WorkEnd F C → WorkEnd F C → Type 0
  WorksOn old new = Works (old.fetcher, old.share) new

  -- each of several workers did so from its pair
  abbrev pub AllWork : List (F × ShareData) → List (WorkEnd F C) → Type 0
  AllWork pairs ends = AllZip Works pairs ends

-- the worker has the fetcher and the share of this pair
abbrev pub HasPair : {F C : Type 0} → F × ShareData → WorkEnd F C → Type 0
HasPair pair worker = (worker.fetcher ≡ pair.0) × (worker.share ≡ pair.1)

-- the shares of the workers have as many parts in all as those of these pairs
abbrev pub HaveAsManyParts : {F C : Type 0} → List (F × ShareData) → List (WorkEnd F C) → Type 0
HaveAsManyParts pairs ends =
    sum_by (λ end. end.share.parts) ends ≡ sum_by (λ pair. pair.1.parts) pairs

-- the bytes that were fetched of a place become its page, unless memory runs out
abbrev pub Settles : ScopeData → PlaceData → List ℕ → Result PageData Why → Type 0
Settles scope place bytes (Ok page) = page ≡ page_of scope place bytes
Settles scope place bytes (Err why) = why ≡ NoMemory
