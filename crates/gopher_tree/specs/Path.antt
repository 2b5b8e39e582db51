-- Paths of files and folders, and their selectors.
use Rattle.std.specs.Prelude.{ℕ, suc, zero, Bool, true, false, ◌&&◌, ◌||◌, not, nat_eq, ◌==◌, List, [], ◌∷◌, ◌++◌, codes, length, take, drop, slice_index, Option, None, Some, if◌then◌else◌}
use Rattle.std.specs.List.{slice_split}
use Rattle.std.specs.Cmp.Lexicographic.{pointwise}
use Rattle.gopher_item.specs.Special.{has_special}

-- the names of a path: the pieces between slashes
abbrev pub names_of : List ℕ → List (List ℕ)
names_of path = slice_split (λ byte. byte == 47) path

abbrev pub first_name : List (List ℕ) → List ℕ
first_name [] = []
first_name (name ∷ more) = name

abbrev pub last_name : List (List ℕ) → List ℕ
last_name [] = []
last_name (name ∷ []) = name
last_name (name ∷ more) = last_name more

abbrev pub menu_name : List ℕ
menu_name = codes ".menu"

abbrev pub is_menu_name : List ℕ → Bool
is_menu_name name = pointwise nat_eq name menu_name

abbrev pub is_search_name : List ℕ → Bool
is_search_name name = pointwise nat_eq name (codes "search")

-- a name that no file and no folder can have: empty, with a leading period, or with a special byte
abbrev pub is_bad_name : List ℕ → Bool
is_bad_name [] = true
is_bad_name (byte ∷ more) = (byte == 46) || has_special (byte ∷ more)

-- `.menu` is valid as the last name
abbrev pub has_bad_name : List (List ℕ) → Bool
has_bad_name [] = false
has_bad_name (name ∷ []) = not (is_menu_name name) && is_bad_name name
has_bad_name (name ∷ more) = is_bad_name name || has_bad_name more

abbrev pub is_menu_path : List ℕ → Bool
is_menu_path path = is_menu_name (last_name (names_of path))

-- what the paths in a folder begin with: its path and a slash; nothing for the root
abbrev pub prefix_of : List ℕ → List ℕ
prefix_of folder = if length folder == 0 then [] else folder ++ 47 ∷ []

abbrev pub rest_after : List ℕ → List ℕ → Option (List ℕ)
rest_after prefix path =
    if pointwise nat_eq (take (length prefix) path) prefix then Some (drop (length prefix) path)
    else None

-- the path below a folder, if the path leads through it; every path leads through the root
abbrev pub rest_below : List ℕ → List ℕ → Option (List ℕ)
rest_below folder path = rest_after (prefix_of folder) path

-- the folders that the first `count` bytes of a path lead through, except the root: its prefixes
-- before each slash
abbrev pub folders_within : ℕ → List ℕ → List (List ℕ)
folders_within zero path = []
folders_within (suc zero) path = []
folders_within (suc (suc count)) path =
    if slice_index path (suc count) == 47
    then folders_within (suc count) path ++ take (suc count) path ∷ []
    else folders_within (suc count) path

abbrev pub folders_of : List ℕ → List (List ℕ)
folders_of path = folders_within (length path) path

-- a slash is at this position of a path, and what comes before it passes the test
abbrev pub leads_at : (List ℕ → Bool) → List ℕ → ℕ → Bool
leads_at test path place = slice_index path place == 47 && test (take place path)

-- the path of a selector, unless a nonempty selector doesn't begin with a slash
abbrev pub path_of : List ℕ → Option (List ℕ)
path_of [] = Some []
path_of (byte ∷ path) = if byte == 47 then Some path else None

-- the path of a name in a folder
abbrev pub path_in : List ℕ → List ℕ → List ℕ
path_in folder name = prefix_of folder ++ name

-- the path of a folder's menu file
abbrev pub menu_path : List ℕ → List ℕ
menu_path folder = path_in folder menu_name
