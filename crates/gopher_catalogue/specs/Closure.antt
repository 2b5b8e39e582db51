-- What a finished crawl contains if its record agrees with a table of outcomes: exactly the places
-- that can be reached from the seeds, and their pages. The final results of searches are defined by
-- the table alone: without a record, a number of a place, or a state.
use Rattle.std.specs.Prelude.{◌≡◌, ℕ, Bool, ◌||◌, ◌↔◌, List, [], ◌∷◌, Option, None, Some, slice_get, take, IsTrue, if◌then◌else◌, fold, Contains}
use Rattle.std.specs.List.Sorted.{IsStrictlySortedBy}
use Rattle.std.specs.Ordering.{on}
use Rattle.std.specs.declared.cmp.Ordering.{Ordering}
use Rattle.gopher_item.specs.Place.{PlaceData, is_among, place_cmp}
use Rattle.gopher_item.specs.Scope.{ScopeData, IsAllowed}
use Rattle.gopher_page.specs.Page.{PageData, page_of}
use Rattle.gopher_page.specs.Query.{TermData}
use Rattle.gopher_index.specs.declared.hit.Hit.{Hit}
use Rattle.gopher_index.specs.Answer.{rank_cmp, hits_among, answer_of, occurring, occurrences_of}
use Rattle.gopher_catalogue.specs.declared.event.Why.{Why}
use Rattle.gopher_catalogue.specs.Event.{OpeningData, EventData, Opened, Found, Failed}
use Rattle.gopher_catalogue.specs.Frontier.{is_find_of, is_failure_of, known, dropped, numbers, waiting, out, done}
use Rattle.gopher_catalogue.specs.Legal.{IsLegal}
use Rattle.gopher_catalogue.specs.Pages.{pages_found}

-- ---- the table

-- the outcome of a fetch: the bytes of a reply, or the reason why there are none
pub data OutcomeData : Type 0 where
  Fetched : (bytes : List ℕ) → OutcomeData
  Unfetched : (why : Why) → OutcomeData

-- the outcome of each place that has one; it doesn't depend on any record
abbrev pub OutcomeTable : Type 0
OutcomeTable = PlaceData → Option OutcomeData

-- the links of the page of a place; none if its outcome isn't bytes
abbrev pub links_after : ScopeData → PlaceData → Option OutcomeData → List PlaceData
links_after scope place (Some (Fetched bytes)) = (page_of scope place bytes).links
links_after scope place outcome = []

-- reachable: the place is a seed, or a link on the page of a reachable place
pub data IsReachable (scope : ScopeData) (seeds : List PlaceData) (table : OutcomeTable) : PlaceData
    → Type 0 where
  seed : {place : PlaceData} → IsTrue (is_among seeds place) → IsReachable scope seeds table place
  link : {place : PlaceData} {next : PlaceData} → IsReachable scope seeds table place
      → IsTrue (is_among (links_after scope place (table place)) next)
      → IsReachable scope seeds table next

-- the page of a reachable place, made of its bytes in the table
pub record IsReachedPage (scope : ScopeData) (seeds : List PlaceData) (table : OutcomeTable)
    (page : PageData) : Type 0 where
  pub place : PlaceData
  pub bytes : List ℕ
  pub is_reachable : IsReachable scope seeds table place
  pub is_fetched : table place ≡ Some (Fetched bytes)
  pub is_page : page ≡ page_of scope place bytes

-- exactly the pages of the reachable places, in any order
abbrev pub AreReachedPages : ScopeData → List PlaceData → OutcomeTable → List PageData → Type 0
AreReachedPages scope seeds table pages =
    (page : PageData) → Contains pages page ↔ IsReachedPage scope seeds table page

-- ---- agreement

-- the event is an outcome of the number
abbrev pub is_outcome_of : ℕ → EventData → Bool
is_outcome_of number event = is_find_of number event || is_failure_of number event

-- the last outcome of a number
unfoldable pub last_outcome : List EventData → ℕ → Option EventData
last_outcome events number =
    fold (λ last event. if is_outcome_of number event then Some event else last) None events

-- the event is the outcome that the table gives for the place
abbrev pub IsTold : ScopeData → PlaceData → Option OutcomeData → Option EventData → Type 0
IsTold scope place outcome (Some (Found number page)) =
    (bytes : List ℕ) × (outcome ≡ Some (Fetched bytes)) × (page ≡ page_of scope place bytes)
IsTold scope place outcome (Some (Failed number why)) = outcome ≡ Some (Unfetched why)
IsTold scope place outcome event = Unit {0}

-- the last outcome of each known place is the table's
abbrev pub Agrees : OpeningData → List EventData → OutcomeTable → Type 0
Agrees opening events table =
    (number : ℕ) (place : PlaceData) → slice_get (known opening events) number ≡ Some place
    → IsTold opening.scope place (table place) (last_outcome events number)

-- the table gives every outcome in the record
abbrev pub GivesEachOutcome : OpeningData → List EventData → OutcomeTable → Type 0
GivesEachOutcome opening events table =
    (k number : ℕ) (event : EventData) (place : PlaceData) → slice_get events k ≡ Some event
    → IsTrue (is_outcome_of number event) → slice_get (known opening events) number ≡ Some place
    → IsTold opening.scope place (table place) (Some event)

-- with one try, a table agrees with the last outcomes exactly if it gives every outcome
abbrev pub OneTryAgreesThroughout : Type 0
OneTryAgreesThroughout =
    (opening : OpeningData) (events : List EventData) (table : OutcomeTable)
    → IsLegal (Opened opening ∷ events) → opening.tries ≡ 1
    → Agrees opening events table ↔ GivesEachOutcome opening events table

-- ---- the law

-- a legal record of a finished crawl (nothing waits and nothing is out) that dropped no mention and
-- agrees with the table
pub record IsComplete (opening : OpeningData) (events : List EventData) (table : OutcomeTable)
    : Type 0 where
  pub legal : IsLegal (Opened opening ∷ events)
  pub none_waits : waiting opening events ≡ []
  pub none_out : out opening events ≡ []
  pub none_dropped : dropped opening events ≡ 0
  pub agrees : Agrees opening events table

-- the known places are the reachable ones, all allowed and all done; the pages found are theirs
pub record HoldsReach (opening : OpeningData) (events : List EventData)
    (table : OutcomeTable) : Type 0 where
  pub known_reachable : (place : PlaceData)
      → IsTrue (is_among (known opening events) place)
      ↔ IsReachable opening.scope opening.seeds table place
  pub reachable_allowed : (place : PlaceData) → IsReachable opening.scope opening.seeds table place
      → IsAllowed opening.scope place
  pub all_done : done opening events ≡ numbers opening events
  pub pages_reached : AreReachedPages opening.scope opening.seeds table (pages_found events)

-- what holds of a record once it is complete, for each table that it agrees with
abbrev pub OnceComplete : List EventData
    → (OpeningData → List EventData → OutcomeTable → Type 0) → Type 0
OnceComplete record_ Holds =
    (opening : OpeningData) (events : List EventData) (table : OutcomeTable)
    → record_ ≡ Opened opening ∷ events → IsComplete opening events table
    → Holds opening events table

abbrev pub FinishedCrawlHoldsReach : Type 0
FinishedCrawlHoldsReach =
    (opening : OpeningData) (events : List EventData) (table : OutcomeTable)
    → IsComplete opening events table → HoldsReach opening events table

-- both lists contain the same places, in any order and any number of times
abbrev pub SamePlaces : List PlaceData → List PlaceData → Type 0
SamePlaces places places' = (place : PlaceData) → is_among places place ≡ is_among places' place

-- two finished crawls with the same table, scope and seeds contain the same places and pages,
-- whatever the order of their seeds and events, their limits and their tries
abbrev pub FinishedCrawlsAgree : Type 0
FinishedCrawlsAgree =
    (opening opening' : OpeningData) (events events' : List EventData) (table : OutcomeTable)
    → opening.scope ≡ opening'.scope → SamePlaces opening.seeds opening'.seeds
    → IsComplete opening events table → IsComplete opening' events' table
    → SamePlaces (known opening events) (known opening' events')
    × ((page : PageData) → Contains (pages_found events) page ↔ Contains (pages_found events') page)

-- a record contains at most one page of each place
abbrev pub EachPageIsFoundOnce : Type 0
EachPageIsFoundOnce =
    (opening : OpeningData) (events : List EventData) (i j : ℕ) (page other : PageData)
    → IsLegal (Opened opening ∷ events) →
    slice_get (pages_found events) i ≡ Some page → slice_get (pages_found events) j ≡ Some other
    → page.place ≡ other.place → i ≡ j

-- ---- lists in order

-- the list contains what another one contains, each once, in this order
pub record IsOrdered {Y : Type 0} (order : Y → Y → Ordering) (some list : List Y) : Type 0 where
  pub members : (element : Y) → Contains list element ↔ Contains some element
  pub in_order : IsStrictlySortedBy order list

-- ---- the final answer

-- the answer over the pages of the reachable places
abbrev pub FinalAnswer : ScopeData → List PlaceData → OutcomeTable → List TermData → List Hit
    → Type 0
FinalAnswer scope seeds table query hits =
    (pages : List PageData) × AreReachedPages scope seeds table pages
    × (hits ≡ answer_of pages query)

-- the occurrences in the pages of the reachable places
abbrev pub FinalOccurrences : ScopeData → List PlaceData → OutcomeTable → List ℕ
    → List (PlaceData × ℕ) → Type 0
FinalOccurrences scope seeds table word list =
    (pages : List PageData) × AreReachedPages scope seeds table pages
    × (list ≡ occurrences_of pages word)

-- a query has at most one final answer, and a word at most one final list of occurrences
abbrev pub FinalAnswerIsOne : Type 0
FinalAnswerIsOne =
    (scope : ScopeData) (seeds : List PlaceData) (table : OutcomeTable) (query : List TermData)
    (hits other : List Hit) →
    FinalAnswer scope seeds table query hits → FinalAnswer scope seeds table query other
    → hits ≡ other

abbrev pub FinalOccurrencesAreOne : Type 0
FinalOccurrencesAreOne =
    (scope : ScopeData) (seeds : List PlaceData) (table : OutcomeTable) (word : List ℕ)
    (list other : List (PlaceData × ℕ)) →
    FinalOccurrences scope seeds table word list → FinalOccurrences scope seeds table word other
    → list ≡ other

-- ---- the laws of results

-- at each moment of a crawl, finished or not, the answer is the first 50 hits of matching pages,
-- each once and in the order of hits, and the occurrences of a word are those in all pages with the
-- word, each once and in place order
abbrev pub AnswersAreOfPagesFound : Type 0
AnswersAreOfPagesFound =
    (opening : OpeningData) (events : List EventData) → IsLegal (Opened opening ∷ events) →
    let pages : List PageData = pages_found (Opened opening ∷ events) in
    ((query : List TermData) → (all : List Hit) × IsOrdered rank_cmp (hits_among query pages) all
    × (answer_of pages query ≡ take 50 all))
    × ((word : List ℕ) → IsOrdered (on (λ occurrence. occurrence.0) place_cmp)
    (occurring word pages) (occurrences_of pages word))

-- these hits, and these occurrences, are the final ones once the record is complete
abbrev pub IsFinalOnceComplete : List EventData → List TermData → List Hit → Type 0
IsFinalOnceComplete record_ query hits =
    OnceComplete record_
    (λ opening events table. FinalAnswer opening.scope opening.seeds table query hits)

abbrev pub AreFinalOnceComplete : List EventData → List ℕ → List (PlaceData × ℕ) → Type 0
AreFinalOnceComplete record_ word list =
    OnceComplete record_
    (λ opening events table. FinalOccurrences opening.scope opening.seeds table word list)

-- a finished crawl gives the final answer to each query
abbrev pub FinishedCrawlGivesFinalAnswers : Type 0
FinishedCrawlGivesFinalAnswers =
    (opening : OpeningData) (events : List EventData) (table : OutcomeTable)
    (query : List TermData) → IsComplete opening events table
    → FinalAnswer opening.scope opening.seeds table query
    (answer_of (pages_found (Opened opening ∷ events)) query)

-- a finished crawl gives the final occurrences of each word
abbrev pub FinishedCrawlGivesFinalOccurrences : Type 0
FinishedCrawlGivesFinalOccurrences =
    (opening : OpeningData) (events : List EventData) (table : OutcomeTable)
    (word : List ℕ) → IsComplete opening events table
    → FinalOccurrences opening.scope opening.seeds table word
    (occurrences_of (pages_found (Opened opening ∷ events)) word)

-- two finished crawls with the same table, scope and seeds give equal answers to every query and
-- equal occurrences of every word, whatever the order of their seeds and events, their limits and
-- their tries
abbrev pub FinishedCrawlsAnswerAlike : Type 0
FinishedCrawlsAnswerAlike =
    (opening opening' : OpeningData) (events events' : List EventData) (table : OutcomeTable)
    → opening.scope ≡ opening'.scope → SamePlaces opening.seeds opening'.seeds
    → IsComplete opening events table → IsComplete opening' events' table →
    let pages : List PageData = pages_found (Opened opening ∷ events) in
    let pages' : List PageData = pages_found (Opened opening' ∷ events') in
    ((query : List TermData) → answer_of pages query ≡ answer_of pages' query)
    × ((word : List ℕ) → occurrences_of pages word ≡ occurrences_of pages' word)
