-- A page has at most as many links as its reply has bytes.
use Rattle.std.proofs.Common.{◌≡◌, ℕ, suc, ◌<◌, ◌≤◌, Bool, true, false, List, [], ◌∷◌, filter, length, map, not, refl, Option, None, Some, arith, eqb}
use Rattle.std.proofs.lemmas.Bool.{both_ways}
use Rattle.std.proofs.lemmas.List.{length-map}
use Rattle.std.proofs.lemmas.List.Sums.{count_by-le-length, length-filter}
use Rattle.std.specs.List.{filter_map, cons_option}
use Rattle.gopher_item.specs.Place.{PlaceData, same_place, distinct}
use Rattle.gopher_bytes.specs.Lines.{lines_before_last, lines_of}
use Rattle.gopher_item.specs.Menu.{entries_of, entry_of}
use Rattle.gopher_item.specs.Scope.{ScopeData, allows}
use Rattle.gopher_page.specs.Page.{menu_links, place_of_entry}
use Rattle.gopher_page.proofs.Short.{before_last_size, filter_count}

length-filter-le : {X : Type 0} (test : X → Bool) (xs : List X) → length (filter test xs) ≤ length xs
length-filter-le test xs = omega (arith, length-filter test xs, count_by-le-length test xs)

length-filter_map-le : {X Y : Type 0} (f : X → Option Y) (xs : List X) → length (filter_map f xs) ≤ length xs
length-filter_map-le f [] = omega arith
length-filter_map-le f (x ∷ xs) = by (f x) (length-filter_map-le f xs)
  where
    by : (r : Option _) → length (filter_map f xs) ≤ length xs → length (cons_option r (filter_map f xs)) ≤ suc (length xs)
    by None rest = omega (arith, rest)
    by (Some y) rest = omega (arith, rest)

length-distinct-le : (places : List PlaceData) → length (distinct places) ≤ length places
length-distinct-le [] = omega arith
length-distinct-le (place ∷ places) = omega (arith, length-distinct-le places, length-filter-le (λ other. not (same_place place other)) (distinct places))

-- each link is named by a line of at least one byte
pub few_menu_links : (scope : ScopeData) (bytes : List ℕ) → length (menu_links scope bytes) ≤ length bytes
few_menu_links scope bytes =
    let lines = lines_before_last (lines_of bytes) in
    let kept = filter (λ line. not (eqb (length line) 0)) lines in
    let named = filter_map place_of_entry (entries_of (lines_of bytes)) in
    omega (
      arith,
      length-distinct-le (filter (allows scope) named),
      length-filter-le (allows scope) named,
      length-filter_map-le place_of_entry (map entry_of kept),
      length-map kept entry_of,
      filter_count (λ line. not (eqb (length line) 0)) some lines,
      before_last_size bytes,
    )
  where
    some : (line : List ℕ) → not (eqb (length line) 0) ≡ true → 0 < length line
    some [] none = absurd (both_ways false refl none)
    some (byte ∷ line) holds = omega arith
