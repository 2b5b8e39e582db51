-- The pages that a record found.
use Rattle.std.specs.Prelude.{◌≡◌, ℕ, List, [], ◌∷◌, ◌++◌, take, Option, IfSome, flat_map}
use Rattle.std.specs.Global.{Vec}
use Rattle.gopher_item.specs.Place.{PlaceData}
use Rattle.gopher_item.specs.declared.limits.TheConstants.{MAX_PLACES}
use Rattle.gopher_page.specs.Page.{PageData}
use Rattle.gopher_page.specs.Query.{TermData}
use Rattle.gopher_segment.specs.Segment.{SegmentData}
use Rattle.gopher_index.specs.Index.{IsSliceOf}
use Rattle.gopher_index.specs.declared.hit.Hit.{Hit}
use Rattle.gopher_index.specs.Answer.{answer_of, occurrences_of}
use Rattle.gopher_catalogue.specs.Event.{EventData, Found}

abbrev pub page_of_event : EventData → List PageData
page_of_event (Found number page) = page ∷ []
page_of_event event = []

-- the pages found, in the order of their events
unfoldable pub pages_found : List EventData → List PageData
pages_found events = flat_map page_of_event events

-- the pages of an index, which contains at most 65,536, after one more event
abbrev pub with_page_of : List PageData → EventData → List PageData
with_page_of pages event = take MAX_PLACES (pages ++ page_of_event event)

-- the pages of a record that the index contains: all pages of a legal record
abbrev pub pages_indexed : List EventData → List PageData
pages_indexed events = take MAX_PLACES (pages_found events)

-- the run of pages that is due to be merged, if there is one, occurs among these pages
abbrev pub IsDueAmong : List PageData → Option SegmentData → Type 0
IsDueAmong pages due = IfSome due (λ run. IsSliceOf run pages)

-- the result of a search, and of a request for the occurrences of a word, over a record
abbrev pub AreHitsIn : List EventData → List TermData → Vec Hit → Type 0
AreHitsIn events query hits = hits.items ≡ answer_of (pages_found events) query

abbrev pub AreOccurrencesIn : List EventData → List ℕ → Vec (PlaceData × ℕ) → Type 0
AreOccurrencesIn events word list = list.items ≡ occurrences_of (pages_found events) word
