-- What a crawl found, knows and links to, and why it doesn't reach a text of the site.
use Rattle.std.specs.Prelude.{◌≡◌, ◌||◌, List, [], map}
use Rattle.std.specs.List.{flat_map}
use Rattle.std.specs.HashSet.{HashSet, contains}
use Rattle.gopher_item.specs.Place.{PlaceData, same_place, is_among}
use Rattle.gopher_catalogue.specs.declared.event.EventData.{EventData}
use Rattle.gopher_catalogue.specs.declared.event.EventData.TheVariants.{Opened, Found}
use Rattle.gopher_catalogue.specs.Pages.{pages_found}
use Rattle.gopher_catalogue.specs.Step.{places_of}

-- ---- places of a record

-- the places of the pages found
abbrev pub places_found : List EventData → List PlaceData
places_found record_ = map (λ page. page.place) (pages_found record_)

-- the places that an event leads to: the seeds of the opening, the links of a page
abbrev pub places_linked_by : EventData → List PlaceData
places_linked_by (Opened opening) = opening.seeds
places_linked_by (Found number page) = page.links
places_linked_by event = []

-- the seeds, and the links of the pages found
abbrev pub places_linked : List EventData → List PlaceData
places_linked record_ = flat_map places_linked_by record_

-- ---- sets of places

-- the set contains what the list contains
abbrev pub HasPlaces : {S : Type 0} → List PlaceData → HashSet PlaceData S → Type 0
HasPlaces places set = (place : PlaceData) → contains same_place set place ≡ is_among places place

-- the places were added to the set
abbrev pub AddsPlaces : {S : Type 0} → List PlaceData → HashSet PlaceData S → HashSet PlaceData S
    → Type 0
AddsPlaces places old new =
    (place : PlaceData)
    → contains same_place new place ≡ (contains same_place old place || is_among places place)

-- the sets of the places that a crawl found, knows, and links to
pub record HasSets {S : Type 0} (record_ : List EventData)
    (found known linked : HashSet PlaceData S) : Type 0 where
  pub found_is : HasPlaces (places_found record_) found
  pub known_is : HasPlaces (places_of record_) known
  pub linked_is : HasPlaces (places_linked record_) linked
