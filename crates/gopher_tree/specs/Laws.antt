-- Laws of folder listings and menu files.
use Rattle.std.specs.Prelude.{◌≡◌, ℕ, Bool, true, false, ◌&&◌, not, is_some, List, map, Option, None, Some, Contains, IsTrue, ◌↔◌, nat_eq}
use Rattle.std.specs.List.{list_any}
use Rattle.std.specs.List.Sorted.{IsStrictlySortedBy}
use Rattle.std.specs.Ordering.{nat_cmp}
use Rattle.std.specs.Cmp.Lexicographic.{pointwise, slice_cmp}
use Rattle.gopher_item.specs.MenuLine.{menu_line_fault}
use Rattle.gopher_item.specs.Place.{is_host}
use Rattle.gopher_tree.specs.MenuFile.{is_item}
use Rattle.gopher_tree.specs.Path.{names_of, first_name, is_menu_name, rest_below}
use Rattle.gopher_tree.specs.Files.{File, children}

-- the names in a folder's listing
abbrev pub listed_names : List File → List ℕ → List (List ℕ)
listed_names files folder = map (λ child. child.0) (children files folder)

-- the path below a folder begins with this name, and isn't the folder's own menu file
abbrev pub begins_with : List ℕ → Option (List ℕ) → Bool
begins_with name None = false
begins_with name (Some rest) =
    pointwise nat_eq name (first_name (names_of rest)) && not (is_menu_name rest)

-- a path leads from a folder through this name, or to it
abbrev pub leads_to_name : List ℕ → List ℕ → List ℕ → Bool
leads_to_name folder name path = begins_with name (rest_below folder path)

-- the names of each listing are distinct and in byte order
abbrev pub ListingsAscend : Type 0
ListingsAscend =
    (files : List File) (folder : List ℕ)
    → IsStrictlySortedBy (slice_cmp nat_cmp) (listed_names files folder)

-- a folder's listing contains a name exactly if some file's path leads from the folder through it,
-- or to it
abbrev pub ListingsAreWhole : Type 0
ListingsAreWhole =
    (files : List File) (folder name : List ℕ)
    → Contains (listed_names files folder) name
    ↔ IsTrue (list_any (λ file. leads_to_name folder name file.0) files)

-- a line of a menu file is valid exactly if a menu line can be made of its type, display string and
-- selector, for any valid host
abbrev pub WrittenLinesAreMade : Type 0
WrittenLinesAreMade =
    (kind : ℕ) (display selector host : List ℕ)
    → is_host host ≡ true
    → is_item kind display selector ≡ not (is_some (menu_line_fault kind display selector host))
