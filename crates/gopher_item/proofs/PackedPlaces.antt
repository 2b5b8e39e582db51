-- Packed places: the place at an index, more hosts, and one more row.
use Rattle.std.proofs.Common.{◌≡◌, ℕ, zero, suc, ◌<◌, List, [], ◌∷◌, ◌++◌, ◌+◌, length, map, drop, get_or, slice_get, Some, Result, Ok, Err, OnErr, refl, ap, sym, ◌∙◌, arith}
use Rattle.std.specs.List.{zip, AllByRecursion}
use Rattle.std.specs.Option.{option_map}
use Rattle.std.proofs.lemmas.List.{length-append, length-map, map-append, get_or_append_left, drop_more}
use Rattle.std.proofs.lemmas.Option.{slice_get-map, slice_get_within, get_or_from_slice_get}
use Rattle.gopher_bytes.proofs.Zips.{length-zip, slice_get-zip, zip-append}
use Rattle.gopher_item.specs.Place.{PlaceData}
use Rattle.gopher_item.specs.Places.{place_of_row, unpacked, AreRows}
use Rattle.gopher_item.specs.declared.places.Row.{Row}

-- the index is that of a host
abbrev pub HasHost : List (List ℕ) → Row → Type 0
HasHost hosts row = row.host < length hosts

pub err_keeps : {T E P : Type 0} (r : Result T E) → P → OnErr r P
err_keeps (Ok x) p = tt
err_keeps (Err e) p = p

abbrev pub with_host : Row → List ℕ → List ℕ → PlaceData
with_host row selector host = record { host = host; port = row.port; selector = selector; kind = row.kind }

pub length-unpacked : (hosts selectors : List (List ℕ)) (rows : List Row) → AreRows hosts selectors rows → length (unpacked hosts selectors rows) ≡ length rows
length-unpacked hosts selectors rows are = length-map (zip selectors rows) (place_of_row hosts) ∙ length-zip selectors rows are.same ∙ sym are.same

pub host_at : (hosts : List (List ℕ)) (rows : List Row) (i : ℕ) (d : Row) → AllByRecursion (HasHost hosts) rows → i < length rows → HasHost hosts (get_or rows i d)
host_at hosts [] i d all within = absurd (omega arith)
host_at hosts (row ∷ rows) zero d all within = all.0
host_at hosts (row ∷ rows) (suc i) d all within = host_at hosts rows i d all.1 (omega (arith, within))

pub place_at : (hosts selectors : List (List ℕ)) (rows : List Row) (i : ℕ) (host selector : List ℕ) (row : Row) → slice_get hosts row.host ≡ Some host → slice_get selectors i ≡ Some selector → slice_get rows i ≡ Some row
    → slice_get (unpacked hosts selectors rows) i ≡ Some (with_host row selector host)
place_at hosts selectors rows i host selector row h s r =
    slice_get-map (place_of_row hosts) (zip selectors rows) i ∙ ap (option_map (place_of_row hosts)) (slice_get-zip selectors rows i selector row s r)
    ∙ ap (λ name. Some (with_host row selector name)) (get_or_from_slice_get hosts row.host host [] h)

pub drop_at : {X : Type 0} (xs : List X) (i : ℕ) (x : X) → slice_get xs i ≡ Some x → drop i xs ≡ x ∷ drop (i + 1) xs
drop_at xs i x at = drop_more xs i x (slice_get_within xs i x at) ∙ ap (λ y. y ∷ drop (i + 1) xs) (get_or_from_slice_get xs i x x at)

-- ---- more hosts

all-more : (hosts more : List (List ℕ)) (rows : List Row) → AllByRecursion (HasHost hosts) rows → AllByRecursion (HasHost (hosts ++ more)) rows
all-more hosts more [] all = all
all-more hosts more (row ∷ rows) all = (omega (arith, all.0, length-append hosts more), all-more hosts more rows all.1)

all-push : (hosts : List (List ℕ)) (rows : List Row) (row : Row) → AllByRecursion (HasHost hosts) rows → HasHost hosts row → AllByRecursion (HasHost hosts) (rows ++ row ∷ [])
all-push hosts [] row all h = (h, all)
all-push hosts (first ∷ rows) row all h = (all.0, all-push hosts rows row all.1 h)

unpacked-append : (hosts more selectors : List (List ℕ)) (rows : List Row) → AllByRecursion (HasHost hosts) rows → unpacked (hosts ++ more) selectors rows ≡ unpacked hosts selectors rows
unpacked-append hosts more [] rows all = refl
unpacked-append hosts more (selector ∷ selectors) [] all = refl
unpacked-append hosts more (selector ∷ selectors) (row ∷ rows) all =
    ap (λ name. with_host row selector name ∷ unpacked (hosts ++ more) selectors rows) (get_or_append_left hosts more [] row.host all.0)
    ∙ ap (λ places. place_of_row hosts (selector, row) ∷ places) (unpacked-append hosts more selectors rows all.1)

module _ (hosts next selectors : List (List ℕ)) (rows : List Row) (are : AreRows hosts selectors rows) (grown : (more : List (List ℕ)) × (next ≡ hosts ++ more)) where
  all-next : AllByRecursion (HasHost next) rows
  all-next = rw (grown.1) (all-more hosts grown.0 rows are.within)

  pub AreRows-more : AreRows next selectors rows
  AreRows-more = record { same = are.same; within = all-next }

  pub unpacked-more : unpacked next selectors rows ≡ unpacked hosts selectors rows
  unpacked-more = rw (grown.1) (unpacked-append hosts grown.0 selectors rows are.within)

  pub AreRows-push : (selector : List ℕ) (row : Row) → row.host < length next → AreRows next (selectors ++ selector ∷ []) (rows ++ row ∷ [])
  AreRows-push selector row h =
      record {
        same = omega (arith, are.same, length-append selectors (selector ∷ []), length-append rows (row ∷ []));
        within = all-push next rows row all-next h;
      }

  pub unpacked-push : (host selector : List ℕ) (row : Row) → slice_get next row.host ≡ Some host
      → unpacked next (selectors ++ selector ∷ []) (rows ++ row ∷ []) ≡ unpacked hosts selectors rows ++ with_host row selector host ∷ []
  unpacked-push host selector row h =
      ap (map (place_of_row next)) (zip-append selectors (selector ∷ []) rows (row ∷ []) are.same)
      ∙ map-append (place_of_row next) (zip selectors rows) ((selector, row) ∷ [])
      ∙ ap (λ places. places ++ place_of_row next (selector, row) ∷ []) unpacked-more
      ∙ ap (λ name. unpacked hosts selectors rows ++ with_host row selector name ∷ []) (get_or_from_slice_get next row.host host [] h)
