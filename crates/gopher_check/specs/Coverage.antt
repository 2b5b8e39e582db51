-- Which texts of a site its crawl reaches, and why it doesn't reach the others.
use Rattle.std.specs.Prelude.{◌≡◌, ℕ, Bool, false, ◌&&◌, not, ◌==◌, List, [], ◌∷◌, length, map, filter, count_by, Option, None, Some, IsTrue, ◌↔◌, if◌then◌else◌}
use Rattle.std.specs.List.{filter_map}
use Rattle.std.specs.Option.{option_map}
use Rattle.gopher_item.specs.Place.{PlaceData, HomeData, is_among, place_of}
use Rattle.gopher_item.specs.Scope.{ScopeData, allows}
use Rattle.gopher_tree.specs.Files.{File, AreNodes}
use Rattle.gopher_tree.specs.Reply.{Named, NamedFile, named}
use Rattle.gopher_catalogue.specs.declared.event.EventData.{EventData}
use Rattle.gopher_catalogue.specs.History.{opening_in}
use Rattle.gopher_catalogue.specs.Opening.{OpeningData}
use Rattle.gopher_catalogue.specs.Step.{places_of, status_of}
use Rattle.gopher_catalogue.specs.Closure.{OutcomeTable, Fetched, IsReachable}
use Rattle.gopher_check.specs.Crawl.{link_table, site_table, IsCrawlOf}
use Rattle.gopher_check.specs.Reach.{places_found, places_linked}
use Rattle.gopher_check.specs.declared.reach.Reason.{Reason}
use Rattle.gopher_check.specs.declared.reach.Reason.TheVariants.{NotAllowed, TooLong, LimitOfPlaces, NotLinked}
use Rattle.gopher_check.specs.declared.coverage.Unreached.{Unreached}
use Rattle.gopher_check.specs.declared.coverage.Coverage.{Coverage}

-- ---- texts

-- a file of type `0` (48); a selector never names a menu file
abbrev pub is_text_file : Option Named → Bool
is_text_file (Some (NamedFile kind bytes)) = kind == 48
is_text_file _ = false

-- a text is at this path
abbrev pub is_text_at : List File → List ℕ → Bool
is_text_at files path = is_text_file (named files (47 ∷ path))

-- the paths of texts, in the order of these paths
abbrev pub texts_among : List File → List (List ℕ) → List (List ℕ)
texts_among files paths = filter (is_text_at files) paths

-- the place of the text at a path, as the site's menus name it
abbrev pub text_place : HomeData → List ℕ → PlaceData
text_place home path = place_of 48 (47 ∷ path) home.host home.port

-- ---- reach

-- the crawl found the page of the text at a path
abbrev pub is_reached : HomeData → List EventData → List ℕ → Bool
is_reached home record_ path = is_among (places_found record_) (text_place home path)

-- why a crawl doesn't reach a place; none if it does. A place that a finished crawl of a site knows
-- and didn't find is of another server, or its reply is too long
abbrev pub reason_for : List EventData → PlaceData → Option Reason
reason_for record_ place =
    if is_among (places_found record_) place then None
    else (if not (allows (opening_in record_).scope place) then Some NotAllowed
    else (if is_among (places_of record_) place then Some TooLong
    else (if is_among (places_linked record_) place then Some LimitOfPlaces else Some NotLinked)))

-- a path with the reason why its text isn't reached, if it isn't
abbrev pub unreached_at : HomeData → List EventData → List ℕ → Option (List ℕ × Reason)
unreached_at home record_ path =
    option_map (λ reason. (path, reason)) (reason_for record_ (text_place home path))

-- the texts that aren't reached, with the reasons
abbrev pub unreached_among : HomeData → List EventData → List (List ℕ) → List (List ℕ × Reason)
unreached_among home record_ paths = filter_map (unreached_at home record_) paths

-- the crawl found a menu of this server with this selector
abbrev pub finds_menu : HomeData → List EventData → List ℕ → Bool
finds_menu home record_ selector =
    is_among (places_found record_) (place_of 49 selector home.host home.port)

-- the crawl found the root with an empty selector and with a slash
abbrev pub finds_root_twice : HomeData → List EventData → Bool
finds_root_twice home record_ = finds_menu home record_ [] && finds_menu home record_ (47 ∷ [])

-- ---- coverage

abbrev pub unreached_data : Unreached → List ℕ × Reason
unreached_data unreached = (unreached.path.now, unreached.reason)

-- what a crawl reaches of these files; the texts in byte order of their paths
pub record Covers (files : List File) (home : HomeData) (record_ : List EventData)
    (coverage : Coverage) : Type 0 where
  pub paths : List (List ℕ)
  pub are_nodes : AreNodes files paths
  pub texts_is : coverage.texts ≡ length (texts_among files paths)
  pub reached_is : coverage.reached ≡ count_by (is_reached home record_) (texts_among files paths)
  pub unreached_is : map unreached_data coverage.unreached.items
      ≡ unreached_among home record_ (texts_among files paths)
  pub root_is : coverage.root_twice ≡ finds_root_twice home record_

-- ---- the law

-- the place can be reached from the seeds, and its outcome is a reply
abbrev pub IsFetchable : ScopeData → List PlaceData → OutcomeTable → PlaceData → Type 0
IsFetchable scope seeds table place =
    IsReachable scope seeds table place
    × ((bytes : List ℕ) × (table place ≡ Some (Fetched bytes)))

-- if the crawl of a site dropped no mention, the texts that count as reached are those whose places
-- can be reached from the seeds, and whose replies aren't too long
abbrev pub ReachedTextsAreFetchable : Type 0
ReachedTextsAreFetchable =
    (files : List File) (home : HomeData) (opening : OpeningData) (record_ : List EventData)
    (path : List ℕ)
    → IsCrawlOf opening (link_table files home) record_ → (status_of record_).dropped ≡ 0
    → IsTrue (is_reached home record_ path)
    ↔ IsFetchable opening.scope opening.seeds (site_table files home) (text_place home path)
