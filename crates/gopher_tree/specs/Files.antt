-- A list of files, each a path and its bytes, as a tree of folders.
use Rattle.std.specs.Prelude.{◌≡◌, ℕ, Bool, ◌||◌, not, nat_eq, ◌==◌, List, [], ◌∷◌, ◌++◌, length, filter, fold, find, Option, None, Some, sum_by, if◌then◌else◌}
use Rattle.std.specs.List.{list_any, filter_map, flat_map}
use Rattle.std.specs.List.Sorted.{IsStrictlySortedBy}
use Rattle.std.specs.Option.{option_and_then, option_map_or}
use Rattle.std.specs.Ordering.{nat_cmp}
use Rattle.std.specs.Cmp.Lexicographic.{pointwise, slice_cmp}
use Rattle.std.specs.BTreeMap.{insert_entry}
use Rattle.gopher_tree.specs.Path.{names_of, is_menu_name, is_menu_path, rest_below, folders_of}
use Rattle.gopher_tree.specs.Kind.{kind_of}

-- a file: its path and its bytes
abbrev pub File : Type 0
File = List ℕ × List ℕ

abbrev pub has_path : List ℕ → File → Bool
has_path path file = pointwise nat_eq path file.0

abbrev pub is_file : List File → List ℕ → Bool
is_file files path = list_any (has_path path) files

-- the file with a path, if there is one
abbrev pub file_at : List File → List ℕ → Option File
file_at files path = find (has_path path) files

-- the menu files, in the order of the files
abbrev pub menu_files : List File → List File
menu_files files = filter (λ file. is_menu_path file.0) files

-- a list of paths contains a path
abbrev pub is_path_among : List (List ℕ) → List ℕ → Bool
is_path_among paths path = list_any (pointwise nat_eq path) paths

-- a folder: the root, or a path that some file's path leads through
abbrev pub is_folder : List File → List ℕ → Bool
is_folder files path =
    (length path == 0) || list_any (λ file. is_path_among (folders_of file.0) path) files

-- the path leads through a file
abbrev pub leads_through_file : List File → List ℕ → Bool
leads_through_file files path = list_any (is_file files) (folders_of path)

-- a name in a folder, and its type
abbrev pub Child : Type 0
Child = List ℕ × ℕ

-- the child of a folder that leads to a file, from the names of the file's path below the folder: a
-- folder (type `1`, 49) or the file itself; a menu file is no child
abbrev pub child_of : ℕ → List (List ℕ) → Option Child
child_of kind [] = None
child_of kind (name ∷ []) = if is_menu_name name then None else Some (name, kind)
child_of kind (name ∷ more) = Some (name, 49)

abbrev pub child_of_rest : File → Option (List ℕ) → Option Child
child_of_rest file rest =
    option_and_then (λ path. child_of (kind_of file.0 file.1) (names_of path)) rest

abbrev pub child_below : List ℕ → File → Option Child
child_below folder file = child_of_rest file (rest_below folder file.0)

-- distinct names in byte order
abbrev pub add_child : List Child → Child → List Child
add_child children child = insert_entry (slice_cmp nat_cmp) children child.0 child.1

abbrev pub with_child : List Child → Option Child → List Child
with_child children child = option_map_or (add_child children) child children

abbrev pub children : List File → List ℕ → List Child
children files folder = fold add_child [] (filter_map (child_below folder) files)

-- distinct paths in the order of first mention
abbrev pub add_path : List (List ℕ) → List ℕ → List (List ℕ)
add_path paths path = if is_path_among paths path then paths else paths ++ path ∷ []

-- the root, the folders that a path leads through, and the path
abbrev pub paths_of : List ℕ → List (List ℕ)
paths_of path = [] ∷ folders_of path ++ path ∷ []

-- the distinct paths of the root, the folders and the files
abbrev pub nodes : List File → List (List ℕ)
nodes files = fold add_path ([] ∷ []) (flat_map (λ file. paths_of file.0) files)

-- the distinct nodes of the files and a path
abbrev pub nodes_with : List File → List ℕ → List (List ℕ)
nodes_with files path = fold add_path (nodes files) (paths_of path)

-- the path is none of the nodes
abbrev pub is_missing : List File → List ℕ → Bool
is_missing files path = not (is_path_among (nodes files) path)

-- the distinct nodes in byte order
pub record AreNodes (files : List File) (paths : List (List ℕ)) : Type 0 where
  pub order : IsStrictlySortedBy (slice_cmp nat_cmp) paths
  pub whole : (path : List ℕ) → is_path_among paths path ≡ is_path_among (nodes files) path

abbrev pub total_bytes : List File → ℕ
total_bytes files = sum_by (λ file. length file.1) files
