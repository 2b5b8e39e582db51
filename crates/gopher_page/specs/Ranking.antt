-- How pages are listed: the order of hits, and the pages that contain a word.
use Rattle.std.specs.Prelude.{ℕ, List, [], ◌∷◌, nat_lt, if◌then◌else◌}
use Rattle.std.specs.Ordering.{nat_cmp, on, then_cmp, flip_args}
use Rattle.std.specs.declared.cmp.Ordering.{Ordering}
use Rattle.gopher_item.specs.Place.{PlaceData, place_cmp}
use Rattle.gopher_page.specs.Page.{PageData}

-- the order of places with their scores: by score, highest first, and places of equal score in
-- place order
abbrev pub scored_cmp : (ℕ × PlaceData) → (ℕ × PlaceData) → Ordering
scored_cmp =
    then_cmp (on (λ scored. scored.0) (flip_args nat_cmp)) (on (λ scored. scored.1) place_cmp)

-- the place of a page with a word's count in it, unless the count is 0
abbrev pub counted_place : PageData → ℕ → List (PlaceData × ℕ)
counted_place page count = if nat_lt 0 count then (page.place, count) ∷ [] else []
