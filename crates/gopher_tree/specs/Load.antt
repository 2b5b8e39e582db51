-- A walk through a folder: the files that it lists, and why it stops.
use Rattle.std.specs.Prelude.{◌≡◌, ℕ, ◌+◌, ◌<◌, ◌≤◌, Bool, true, false, not, ◌==◌, ◌||◌, nat_le, nat_lt, List, [], ◌∷◌, ◌++◌, length, map, take, String, string_bytes, Option, None, Some, IfSome, Result, Ok, Err, IfOk, ◌⊎◌, if◌then◌else◌}
use Rattle.std.specs.List.{All}
use Rattle.std.specs.declared.vec.Vec.{Vec}
use Rattle.gopher_tree.specs.Path.{is_menu_name}
use Rattle.gopher_tree.specs.Files.{File, total_bytes}
use Rattle.gopher_tree.specs.Fault.{file_fault, fault_after, files_fault, RefusesFile}
use Rattle.gopher_tree.specs.declared.fault.TreeFault.{TreeFault}
use Rattle.gopher_tree.specs.declared.load.trail.Trail.{Trail}
use Rattle.gopher_tree.specs.declared.fault.TreeFault.TheVariants.{LongSelector, TooBig, Unreadable, NoMemory}

-- a listed name isn't empty and doesn't begin with a period, except `.menu`
abbrev pub is_shown : List ℕ → Bool
is_shown [] = false
is_shown (byte ∷ more) = not (byte == 46) || is_menu_name (byte ∷ more)

-- the name was appended if it is listed
abbrev pub AddsShown : {A B : Type 0} → Vec (String A) B → Vec (String A) B → List ℕ → Type 0
AddsShown old new name =
    map (λ each. string_bytes each) new.items
    ≡ map (λ each. string_bytes each) old.items ++ (if is_shown name then name ∷ [] else [])

-- all these names are listed
abbrev pub AreShown : {A : Type 0} → List (String A) → Type 0
AreShown names = All (λ name. is_shown (string_bytes name) ≡ true) names

-- the number of hidden names after a name was seen; it stays at its last value
abbrev pub CountsHidden : ℕ → ℕ → List ℕ → Type 0
CountsHidden old new name =
    new ≡ (if is_shown name then old else if nat_lt old 18446744073709551615 then old + 1 else old)

-- after these numbers of files and folders below the root, one more is too many
abbrev pub leaves_no_room : ℕ → ℕ → Bool
leaves_no_room files folders = nat_le 4095 (files + folders)

-- how many bytes of a file of this length are read: at most one more than a file may have
abbrev pub most_read : ℕ → ℕ
most_read length_of_file = if nat_lt length_of_file 16777217 then length_of_file else 16777217

-- a read without a fault returns the first `most` of the bytes that remained, if these are known
abbrev pub ReadsMost : {A E : Type 0} → ℕ → Option (List ℕ) → Result (Vec ℕ A) E → Type 0
ReadsMost most remaining result =
    IfSome remaining (λ all. IfOk result (λ bytes. bytes.items ≡ take most all))

-- something can't be read after `number` files, or the walk is out of memory
abbrev pub IsUnreadable : ℕ → TreeFault → Type 0
IsUnreadable number fault = (fault ≡ Unreadable number) ⊎ (fault ≡ NoMemory)

-- the size is at least the number of bytes that were read, if any were
abbrev pub HasSize : {A : Type 0} → ℕ → Option (Vec ℕ A) → Type 0
HasSize size read = IfSome read (λ bytes. length bytes.items ≤ size)

-- there are as many files and folders as a tree may have
abbrev pub LeavesNoRoom : ℕ → Trail → Type 0
LeavesNoRoom number trail = leaves_no_room number (length trail.folders.items) ≡ true

abbrev pub HasRoom : ℕ → Trail → Type 0
HasRoom number trail = leaves_no_room number (length trail.folders.items) ≡ false

-- a file fails after these files: with its own fault, because it is out of memory, or because there
-- are too many nodes
abbrev pub Refuses : List File → Trail → File → TreeFault → Type 0
Refuses files trail file fault =
    RefusesFile files file fault
    ⊎ (LeavesNoRoom (length files) trail × (fault ≡ TooBig (length files)))

-- a path was appended
abbrev pub AddsPath : {A B : Type 0} → Vec (Vec ℕ A) B → Vec (Vec ℕ A) B → List ℕ → Type 0
AddsPath old new path =
    map (λ each. each.items) new.items ≡ map (λ each. each.items) old.items ++ path ∷ []

-- the folder at the end of a trail was visited after `number` files, and it has no fault
pub record EntersFolder (number : ℕ) (old new : Trail) : Type 0 where
  pub short : length old.path.items ≤ 254
  pub room : HasRoom number old
  pub added : AddsPath old.folders new.folders old.path.items

-- a walk stops after `number` files, because there are too many nodes or it is out of memory
abbrev pub StopsFull : ℕ → Trail → TreeFault → Type 0
StopsFull number trail fault =
    (LeavesNoRoom number trail × (fault ≡ TooBig number)) ⊎ (fault ≡ NoMemory)

-- a walk stops at the folder at the end of its trail, after `number` files: its selector is too
-- long, there are too many nodes, or the walk is out of memory
abbrev pub StopsAtFolder : ℕ → Trail → TreeFault → Type 0
StopsAtFolder number trail fault =
    ((254 < length trail.path.items) × (fault ≡ LongSelector number))
    ⊎ StopsFull number trail fault

-- a walk stops at the end of its trail after these files: the file there has the fault, the folder
-- there has it, or something can't be read
abbrev pub StopsAt : List File → Trail → TreeFault → Type 0
StopsAt files trail fault =
    ((bytes : List ℕ) × (length bytes ≤ trail.size) × (trail.bytes ≡ total_bytes files)
    × (file_fault files (trail.path.items, bytes) ≡ Some fault))
    ⊎ (StopsAtFolder (length files) trail fault ⊎ IsUnreadable (length files) fault)

-- a walk that had listed `before` lists these files, and the new ones have no fault
abbrev pub Lists : List File → List File → Type 0
Lists before files =
    (added : List File) × (files ≡ before ++ added) × (fault_after before added ≡ None)

-- loading a folder returns the tree of the files that the walk lists, or fails with the fault at
-- which the walk stops, at the end of its trail
abbrev pub LoadsTo : Trail → Result (List File) TreeFault → Type 0
LoadsTo trail (Ok files) = files_fault files ≡ None
LoadsTo trail (Err fault) =
    (files : List File) × (files_fault files ≡ None) × StopsAt files trail fault

-- loading a folder returns the tree of the files that the walk lists, or fails with the fault at
-- which the walk stops, on some trail
abbrev pub Loads : Result (List File) TreeFault → Type 0
Loads (Ok files) = files_fault files ≡ None
Loads (Err fault) = (trail : Trail) × LoadsTo trail (Err fault)
