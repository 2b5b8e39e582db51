-- The faults of lists of files.
use Rattle.std.specs.Prelude.{◌≡◌, ℕ, Bool, ◌||◌, nat_lt, List, [], ◌∷◌, ◌++◌, length, Option, None, Some, Result, Ok, Err, ◌⊎◌, if◌then◌else◌}
use Rattle.std.specs.Option.{option_map, option_or}
use Rattle.gopher_tree.specs.Path.{names_of, first_name, is_search_name, has_bad_name, is_menu_path}
use Rattle.gopher_tree.specs.MenuFile.{bad_line}
use Rattle.gopher_tree.specs.Files.{File, is_file, is_folder, leads_through_file, nodes, total_bytes}
use Rattle.gopher_tree.specs.declared.fault.TreeFault.{TreeFault}
use Rattle.gopher_tree.specs.declared.fault.TreeFault.TheVariants.{BadName, Reserved, LongSelector, TooBig, BadMenuLine, Twice, Unreadable, NoMemory}

abbrev pub tree_fault_code : TreeFault → ℕ
tree_fault_code (BadName file) = 20
tree_fault_code (Reserved file) = 21
tree_fault_code (LongSelector file) = 22
tree_fault_code (TooBig file) = 23
tree_fault_code (BadMenuLine file line) = 24
tree_fault_code (Twice file) = 25
tree_fault_code (Unreadable file) = 26
tree_fault_code NoMemory = 90

-- the first fault of a path alone; `number` is the index of its file in the list
abbrev pub path_fault : ℕ → List ℕ → Option TreeFault
path_fault number path =
    if has_bad_name (names_of path) then Some (BadName number) else
    (if is_search_name (first_name (names_of path)) then Some (Reserved number) else
    (if nat_lt 254 (length path) then Some (LongSelector number) else None))

-- a file has too many bytes, all files have too many bytes, or there are too many nodes
abbrev pub is_too_big : List File → File → Bool
is_too_big files file =
    nat_lt 16777216 (length file.1) || nat_lt 67108864 (total_bytes (files ++ file ∷ []))
    || nat_lt 4096 (length (nodes (files ++ file ∷ [])))

-- the path is a file or a folder already, or leads through a file
abbrev pub is_twice : List File → List ℕ → Bool
is_twice files path = is_file files path || is_folder files path || leads_through_file files path

abbrev pub menu_fault : ℕ → File → Option TreeFault
menu_fault number file =
    if is_menu_path file.0 then option_map (BadMenuLine number) (bad_line file.1) else None

-- the first fault of a file after these files
abbrev pub file_fault : List File → File → Option TreeFault
file_fault files file =
    option_or (path_fault (length files) file.0)
    (if is_too_big files file then Some (TooBig (length files))
    else option_or (menu_fault (length files) file)
    (if is_twice files file.0 then Some (Twice (length files)) else None))

-- the fault of the first file that has one, after the files `done`
abbrev pub fault_after : List File → List File → Option TreeFault
fault_after done [] = None
fault_after done (file ∷ files) =
    option_or (file_fault done file) (fault_after (done ++ file ∷ []) files)

abbrev pub files_fault : List File → Option TreeFault
files_fault files = fault_after [] files

-- a file without a fault was added after these files
abbrev pub AddsFile : List File → File → List File → Type 0
AddsFile before file after = (file_fault before file ≡ None) × (after ≡ before ++ file ∷ [])

-- adding a file after these files failed: with its fault, or because it is out of memory
abbrev pub RefusesFile : List File → File → TreeFault → Type 0
RefusesFile files file fault =
    (file_fault files file ≡ Some fault) ⊎ ((file_fault files file ≡ None) × (fault ≡ NoMemory))

-- the fault of the first file
abbrev pub first_fault : List File → Option TreeFault
first_fault [] = None
first_fault (file ∷ files) = file_fault [] file

-- making a tree returns the tree of the files, fails with their fault, or is out of memory, which
-- it reports only if the first file has no fault
abbrev pub MakesTree : List File → Result (List File) TreeFault → Type 0
MakesTree files (Ok tree) = (files_fault files ≡ None) × (tree ≡ files)
MakesTree files (Err fault) =
    (files_fault files ≡ Some fault) ⊎ ((fault ≡ NoMemory) × (first_fault files ≡ None))
