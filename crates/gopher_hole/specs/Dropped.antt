-- The links that a crawl dropped, and the most of several numbers.
use Rattle.std.specs.Prelude.{◌≡◌, ℕ, ◌+◌, ◌^◌, ◌-◌, ◌<◌, ◌≤◌, min, Bool, not, List, [], length, Option, MatchOption, slice_index}
use Rattle.std.specs.Option.{unwrap_or}
use Rattle.gopher_item.specs.Place.{PlaceData, is_among}

-- a link leads to none of the known places
abbrev pub is_unknown : List PlaceData → PlaceData → Bool
is_unknown known link = not (is_among known link)

-- the number of a host's dropped links after those of one more menu, as 64 bits hold it
abbrev pub more_links : Option ℕ → ℕ → ℕ
more_links before links = min (unwrap_or before 0 + links) (2 ^ 64 - 1)

-- the index of the greatest number, the first of several
pub record IsGreatest (numbers : List ℕ) (index : ℕ) : Type 0 where
  pub within : index < length numbers
  pub greatest : (k : ℕ) → k < length numbers → slice_index numbers k ≤ slice_index numbers index
  pub first : (k : ℕ) → k < index → slice_index numbers k < slice_index numbers index

-- the index of the greatest number, if there are numbers
abbrev pub IsMost : List ℕ → Option ℕ → Type 0
IsMost numbers index = MatchOption index (numbers ≡ []) (IsGreatest numbers)
