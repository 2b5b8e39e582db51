-- The site's own crawl: what this server sends its own crawler, as a table of outcomes, and the
-- records of crawls that agree with a table.
use Rattle.std.specs.Prelude.{◌≡◌, ℕ, Bool, true, ◌&&◌, nat_eq, nat_le, ◌==◌, List, [], ◌∷◌, ◌++◌, codes, length, map, take, Option, None, Some, slice_get, IsTrue, Result, Ok, Err, if◌then◌else◌}
use Rattle.std.specs.Char.{to_ascii_lowercase}
use Rattle.std.specs.Cmp.Lexicographic.{pointwise}
use Rattle.std.specs.declared.vec.Vec.{Vec}
use Rattle.gopher_item.specs.Place.{PlaceData, HomeData}
use Rattle.gopher_item.specs.Scope.{ScopeData}
use Rattle.gopher_text.specs.declared.reply_reader.TheConstants.{MAX_REPLY}
use Rattle.gopher_tree.specs.Files.{File}
use Rattle.gopher_tree.specs.Reply.{error_bytes, tree_reply}
use Rattle.gopher_scope.specs.Lines.{leads_to_search}
use Rattle.gopher_page.specs.Page.{page_of}
use Rattle.gopher_catalogue.specs.declared.event.Why.{Why}
use Rattle.gopher_catalogue.specs.declared.event.Why.TheVariants.{Connect, TooLong}
use Rattle.gopher_catalogue.specs.declared.fault.OpenFault.{OpenFault}
use Rattle.gopher_catalogue.specs.declared.fault.OpenFault.TheVariants.{NoMemory}
use Rattle.gopher_catalogue.specs.Opening.{OpeningData}
use Rattle.gopher_catalogue.specs.declared.event.EventData.{EventData}
use Rattle.gopher_catalogue.specs.declared.event.EventData.TheVariants.{Opened, Claimed, Found, Failed}
use Rattle.gopher_catalogue.specs.History.{opening_in}
use Rattle.gopher_catalogue.specs.Frontier.{known}
use Rattle.gopher_catalogue.specs.Legal.{IsLegal}
use Rattle.gopher_catalogue.specs.Step.{TurnData, Take, status_of, is_finished}
use Rattle.gopher_catalogue.specs.Pages.{pages_found}
use Rattle.gopher_catalogue.specs.Closure.{OutcomeData, Fetched, Unfetched, OutcomeTable, AreReachedPages, is_outcome_of, IsTold, Agrees}

-- ---- the table of a site

-- the place is of the server with this address, whose host may be written with letters in any case
abbrev pub is_here : HomeData → PlaceData → Bool
is_here home place =
    (place.port == home.port)
    && pointwise nat_eq (map to_ascii_lowercase place.host) (map to_ascii_lowercase home.host)

-- what the server sends to a crawler that asks for a selector: to the search, which it sends no
-- words, the error reply `No words`, to any other the reply of the tree
abbrev pub site_reply : List File → HomeData → List ℕ → List ℕ
site_reply files home selector =
    if leads_to_search selector then error_bytes (codes "No words") home
    else tree_reply files home selector

-- the outcome of a reply: its bytes, unless there are more than a fetch takes
abbrev pub outcome_of_reply : List ℕ → OutcomeData
outcome_of_reply bytes =
    if nat_le (length bytes) MAX_REPLY then Fetched bytes else Unfetched TooLong

-- the outcome of a place; no place of another server is fetched
abbrev pub site_outcome : List File → HomeData → PlaceData → OutcomeData
site_outcome files home place =
    if is_here home place then outcome_of_reply (site_reply files home place.selector)
    else Unfetched Connect

abbrev pub site_table : List File → HomeData → OutcomeTable
site_table files home place = Some (site_outcome files home place)

-- what a crawl for links takes of an outcome: the reply of a menu (type `1`, 49), and nothing of a
-- text, which has no links
abbrev pub outcome_for_links : ℕ → OutcomeData → OutcomeData
outcome_for_links kind (Fetched bytes) = Fetched (if kind == 49 then bytes else [])
outcome_for_links kind (Unfetched why) = Unfetched why

unfoldable pub taken_outcome : List File → HomeData → PlaceData → OutcomeData
taken_outcome files home place = outcome_for_links place.kind (site_outcome files home place)

-- the table of a crawl for links over the site
abbrev pub link_table : List File → HomeData → OutcomeTable
link_table files home place = Some (taken_outcome files home place)

-- ---- a crawl of a table

-- the record of a finished crawl that began with this opening and agrees with the table
pub record IsCrawlOf (opening : OpeningData) (table : OutcomeTable) (record_ : List EventData)
    : Type 0 where
  pub events : List EventData
  pub record_is : record_ ≡ Opened opening ∷ events
  pub legal : IsLegal record_
  pub finished : is_finished record_ ≡ true
  pub agrees : Agrees opening events table

-- a crawl that dropped no mention found exactly the pages of the places that can be reached
abbrev pub CrawlsFindReachedPages : Type 0
CrawlsFindReachedPages =
    (opening : OpeningData) (table : OutcomeTable) (record_ : List EventData)
    → IsCrawlOf opening table record_ → (status_of record_).dropped ≡ 0
    → AreReachedPages opening.scope opening.seeds table (pages_found record_)

-- the fault of a crawl that fails: that of its opening or, if it has none, out of memory
abbrev pub IsCrawlFault : Option OpenFault → OpenFault → Type 0
IsCrawlFault (Some due) fault = fault ≡ due
IsCrawlFault None fault = fault ≡ NoMemory

-- ---- one place

-- the outcome of a fetch, as data
abbrev pub outcome_data : {A : Type 0} → Result (Vec ℕ A) Why → OutcomeData
outcome_data (Ok reply) = Fetched reply.items
outcome_data (Err why) = Unfetched why

-- the event that records the outcome of a number's place
abbrev pub outcome_event : ScopeData → ℕ → PlaceData → OutcomeData → EventData
outcome_event scope number place (Fetched bytes) = Found number (page_of scope place bytes)
outcome_event scope number place (Unfetched why) = Failed number why

abbrev pub with_outcome : List EventData → ℕ → PlaceData → OutcomeData → List EventData
with_outcome record_ number place outcome =
    record_ ++ outcome_event (opening_in record_).scope number place outcome ∷ []

-- the record after a claim and the outcome of its place
abbrev pub after_visit : (PlaceData → OutcomeData) → List EventData → TurnData → List EventData
after_visit outcome_at record_ (Take number place) =
    with_outcome (record_ ++ Claimed number ∷ []) number place (outcome_at place)
after_visit outcome_at record_ turn = record_

-- ---- a crawl under way

-- the event, which follows these, is no outcome, or the table's of the place with its number
abbrev pub IsToldAfter : OpeningData → OutcomeTable → List EventData → EventData → Type 0
IsToldAfter opening table before event =
    (number : ℕ) → IsTrue (is_outcome_of number event)
    → (place : PlaceData) × (slice_get (known opening before) number ≡ Some place)
    × IsTold opening.scope place (table place) (Some event)

-- the record of a crawl that began with this opening, each outcome of which is the table's
pub record IsUnderWay (opening : OpeningData) (table : OutcomeTable) (record_ : List EventData)
    : Type 0 where
  pub events : List EventData
  pub record_is : record_ ≡ Opened opening ∷ events
  pub legal : IsLegal record_
  pub told : (k : ℕ) (event : EventData) → slice_get events k ≡ Some event
      → IsToldAfter opening table (take k events) event

-- a crawl that was under way is finished
abbrev pub Finishes : OutcomeTable → List EventData → List EventData → Type 0
Finishes table old new =
    (opening : OpeningData) → IsUnderWay opening table old → IsCrawlOf opening table new
