-- The ranks of pages in place order.
use Rattle.std.specs.Prelude.{◌≡◌, ℕ, ◌<◌, false, List, length, min, slice_index, slice_index_or}
use Rattle.std.specs.Ordering.{is_lt}
use Rattle.gopher_item.specs.Place.{PlaceData, place_cmp}
use Rattle.gopher_page.specs.Page.{PageData}

-- each page has a rank; of two pages, the one with the higher rank doesn't come first in place
-- order
pub record AreRanks (pages : List PageData) (ranks : List ℕ) : Type 0 where
  pub each : length ranks ≡ length pages
  pub ordered : (i j : ℕ) (d : PageData) → i < length pages → j < length pages
      → slice_index ranks i < slice_index ranks j
      → is_lt (place_cmp (slice_index_or pages j d).place (slice_index_or pages i d).place) ≡ false

-- the places of pages, each with the index of its page
pub record AreNumbered (pages : List PageData) (placed : List (PlaceData × ℕ)) : Type 0 where
  pub each : length placed ≡ length pages
  pub index : (k : ℕ) (e : PlaceData × ℕ) → k < length pages → (slice_index_or placed k e).1 ≡ k
  pub place : (k : ℕ) (d : PageData) (e : PlaceData × ℕ) → k < length pages
      → (slice_index_or placed k e).0 ≡ (slice_index_or pages k d).place

-- each index in the list is below the list's length
abbrev pub HaveIndices : List (PlaceData × ℕ) → Type 0
HaveIndices sorted =
    (k : ℕ) (e : PlaceData × ℕ) → k < length sorted
    → (slice_index_or sorted k e).1 < length sorted

-- the rank of an index is one of its positions in the list, at most 65,535
pub record HasPosition (sorted : List (PlaceData × ℕ)) (ranks : List ℕ) (index : ℕ) : Type 0 where
  pub at : ℕ
  pub within : at < length sorted
  pub here : (e : PlaceData × ℕ) → (slice_index_or sorted at e).1 ≡ index
  pub rank : slice_index ranks index ≡ min at 65535

-- the rank of each index in the list is one of its positions
pub record AreScattered (sorted : List (PlaceData × ℕ)) (ranks : List ℕ) : Type 0 where
  pub each : length ranks ≡ length sorted
  pub positions : (k : ℕ) (e : PlaceData × ℕ) → k < length sorted
      → HasPosition sorted ranks (slice_index_or sorted k e).1
