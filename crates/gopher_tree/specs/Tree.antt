-- The invariant of a tree.
use Rattle.std.specs.Prelude.{◌≡◌, ℕ, ◌+◌, ◌<◌, ◌≤◌, ◌||◌, nat_eq, ◌==◌, List, [], ◌∷◌, length, map, fold, slice_get, Option, None, Some, is_some, IfSome, if◌then◌else◌}
use Rattle.std.specs.List.Sorted.{IsStrictlySortedBy}
use Rattle.std.specs.Option.{option_and_then, option_flatten}
use Rattle.std.specs.Ordering.{nat_cmp}
use Rattle.std.specs.Cmp.Lexicographic.{pointwise, slice_cmp}
use Rattle.std.specs.BTreeMap.{BTreeMap, keys, get_by, btree_map_len}
use Rattle.std.specs.declared.vec.Vec.{Vec}
use Rattle.gopher_tree.specs.Files.{File, file_at, is_path_among, add_path, nodes, total_bytes}

-- the entry at a path: the number of a file, or a folder
abbrev pub entry_at : {A : Type 0} → BTreeMap (Vec ℕ A) (Option ℕ) → List ℕ → Option (Option ℕ)
entry_at held path = get_by (λ key. slice_cmp nat_cmp path key.items) held

-- the number of the file at a path
abbrev pub number_at : {A : Type 0} → BTreeMap (Vec ℕ A) (Option ℕ) → List ℕ → Option ℕ
number_at held path = option_flatten (entry_at held path)

-- the file with this number, if there is one
abbrev pub file_numbered : List File → Option ℕ → Option File
file_numbered files number = option_and_then (slice_get files) number

-- a map contains these paths, except the root
pub record HoldsPaths {A : Type 0} (paths : List (List ℕ))
    (held : BTreeMap (Vec ℕ A) (Option ℕ)) : Type 0 where
  pub known :
      (path : List ℕ)
      → is_path_among paths path ≡ ((length path == 0) || is_some (entry_at held path))
  pub root : entry_at held [] ≡ None
  pub count : length paths ≡ btree_map_len held + 1

-- the map contains the nodes of the files and the number of each file, and the number of bytes is
-- that of the files, within the limit
pub record IsTree {A : Type 0} (files : List File) (held : BTreeMap (Vec ℕ A) (Option ℕ))
    (bytes : ℕ) : Type 0 where
  pub paths : HoldsPaths (nodes files) held
  pub numbers : (path : List ℕ) → file_numbered files (number_at held path) ≡ file_at files path
  pub within : (path : List ℕ) → IfSome (number_at held path) (λ number. number < length files)
  pub bytes_is : bytes ≡ total_bytes files
  pub few_bytes : bytes ≤ 67108864

-- the entry at this path was set, and all others are as before
pub record SetsEntry {A : Type 0} (old new : BTreeMap (Vec ℕ A) (Option ℕ)) (path : List ℕ)
    (entry : Option ℕ) : Type 0 where
  pub entries :
      (q : List ℕ)
      → entry_at new q ≡ (if pointwise nat_eq q path then Some entry else entry_at old q)
  pub count :
      btree_map_len new ≡ btree_map_len old + (if is_some (entry_at old path) then 0 else 1)

-- these folders were added, and the files are as before
pub record AddsFolders {A : Type 0} (old new : BTreeMap (Vec ℕ A) (Option ℕ))
    (folders : List (List ℕ)) : Type 0 where
  pub paths :
      (paths : List (List ℕ)) → HoldsPaths paths old → HoldsPaths (fold add_path paths folders) new
  pub numbers : (path : List ℕ) → number_at new path ≡ number_at old path

-- the root's path and the keys of a map, in their order
pub record ArePathsOf {A : Type 0} (held : BTreeMap (Vec ℕ A) (Option ℕ))
    (paths : List (List ℕ)) : Type 0 where
  pub all : paths ≡ [] ∷ map (λ key. key.items) (keys held)
  pub order : IsStrictlySortedBy (λ x y. slice_cmp nat_cmp x.items y.items) (keys held)
