-- A packed list of places: their hosts, their selectors, and a row for each with the rest.
use Rattle.std.specs.Prelude.{◌≡◌, ℕ, ◌+◌, ◌<◌, ◌≤◌, ◌⊎◌, List, Option, length, map, slice_index_or, []}
use Rattle.std.specs.Borrow.{Bor}
use Rattle.std.specs.List.{sum_by, zip, AllByRecursion}
use Rattle.std.specs.Option.{option_map_or}
use Rattle.gopher_item.specs.Place.{PlaceData}
use Rattle.gopher_item.specs.declared.places.Row.{Row}

-- the place of a row with its selector
abbrev pub place_of_row : List (List ℕ) → List ℕ × Row → PlaceData
place_of_row hosts entry =
    record {
      host = slice_index_or hosts entry.1.host [];
      port = entry.1.port;
      selector = entry.0;
      kind = entry.1.kind;
    }

-- the places of these rows
abbrev pub unpacked : List (List ℕ) → List (List ℕ) → List Row → List PlaceData
unpacked hosts selectors rows = map (place_of_row hosts) (zip selectors rows)

-- the places of a list that is lent, if there is one
abbrev pub places_lent : Option (Bor (List PlaceData)) → List PlaceData
places_lent places = option_map_or (λ lent. lent.now) places []

-- each row has a selector and a host
pub record AreRows (hosts selectors : List (List ℕ)) (rows : List Row) : Type 0 where
  pub same : length rows ≡ length selectors
  pub within : AllByRecursion (λ row. row.host < length hosts) rows

-- the bytes of the selectors and hosts of places, if each has its own
abbrev pub names_len : List PlaceData → ℕ
names_len places = sum_by (λ place. length place.selector + length place.host) places

-- a sum of bytes as a `usize` holds it: it is exact, or the largest number
abbrev pub IsSum : ℕ → ℕ → Type 0
IsSum total number = (number ≤ total) × ((number ≡ total) ⊎ (18446744073709551615 ≤ number))
