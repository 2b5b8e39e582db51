-- The results of searches over the pages found.
use Rattle.std.specs.Prelude.{◌≡◌, ℕ, false, List, [], ◌∷◌, ◌++◌, map, take, Result, OnOk, if◌then◌else◌}
use Rattle.std.specs.Arc.{arc_value}
use Rattle.std.specs.List.{fold, flat_map}
use Rattle.std.specs.List.Sorted.{IsPermutation, IsSorted}
use Rattle.std.specs.Ordering.{nat_cmp, on, then_cmp}
use Rattle.std.specs.declared.cmp.Ordering.{Ordering}
use Rattle.std.specs.BTreeSet.{insert_key}
use Rattle.std.specs.declared.sync.Arc.{Arc}
use Rattle.gopher_item.specs.Place.{PlaceData, place_cmp}
use Rattle.gopher_page.specs.Page.{PageData}
use Rattle.gopher_page.specs.Query.{TermData, matches, score}
use Rattle.gopher_page.specs.Ranking.{counted_place, scored_cmp}
use Rattle.gopher_page.specs.Counts.{count_meant}
use Rattle.gopher_segment.specs.Segment.{meant_counts}
use Rattle.gopher_index.specs.declared.hit.Hit.{Hit}

-- ---- searches

-- the order of hits: by score, highest first, and hits of equal score in place order
abbrev pub rank_cmp : Hit → Hit → Ordering
rank_cmp = on (λ hit. (hit.score, hit.place)) scored_cmp

-- the hit of a page, if the query matches it
abbrev pub hit_of : List TermData → PageData → List Hit
hit_of query page =
    if matches query page.counts
    then (record { place = page.place; title = page.title; score = score query page.counts } ∷ [])
    else []

-- the hits of the pages that match
unfoldable pub hits_among : List TermData → List PageData → List Hit
hits_among query pages = flat_map (hit_of query) pages

-- the distinct hits in their order
unfoldable pub ranked : List Hit → List Hit
ranked hits = fold (insert_key rank_cmp) [] hits

-- the answer to a query: the first 50 of the pages that match, each once, in the order of hits
unfoldable pub answer_of : List PageData → List TermData → List Hit
answer_of pages query = take 50 (ranked (hits_among query pages))

-- a search that is done in steps: the hits that it will find, and the most steps that are left
pub record SearchData : Type 0 where
  pub hits : List Hit
  pub left : ℕ

-- ---- occurrences

-- the place of a page with its number of occurrences of a word, if the page contains the word
abbrev pub occurrence_of : List ℕ → PageData → List (PlaceData × ℕ)
occurrence_of word page = counted_place page (count_meant false word page.counts)

-- the occurrences in all pages that contain the word, in the order of the pages
unfoldable pub occurring : List ℕ → List PageData → List (PlaceData × ℕ)
occurring word pages = flat_map (occurrence_of word) pages

-- the occurrences of a word: the places of the pages that contain it, each once and in place order,
-- with the number of times
unfoldable pub occurrences_of : List PageData → List ℕ → List (PlaceData × ℕ)
occurrences_of pages word =
    fold (insert_key (on (λ occurrence. occurrence.0) place_cmp)) [] (occurring word pages)

-- place order, and for equal places the order of counts
abbrev pub occurrence_cmp : (PlaceData × ℕ) → (PlaceData × ℕ) → Ordering
occurrence_cmp =
    then_cmp (on (λ occurrence. occurrence.0) place_cmp) (on (λ occurrence. occurrence.1) nat_cmp)

-- the list contains these occurrences in that order
pub record AreOccurrences (pages : List PageData) (word : List ℕ) (list : List (PlaceData × ℕ))
    : Type 0 where
  pub permutation : IsPermutation (occurring word pages) list
  pub sorted : IsSorted occurrence_cmp list

-- if these are the counts of a word in the pages, its occurrences in them are appended to those
-- found before, unless it fails
abbrev pub FindsCounted : {T E Z : Type 0} → List (Arc PageData Z) → List ℕ → List (PlaceData × ℕ)
    → List (PlaceData × ℕ) → Result T E → Type 0
FindsCounted pages counts old new result =
    (word : List ℕ) → counts ≡ meant_counts false word (map arc_value pages)
    → OnOk result (new ≡ old ++ occurring word (map arc_value pages))
