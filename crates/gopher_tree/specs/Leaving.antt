-- A walk through a folder that leaves out what can't be served: what it leaves out, and why it
-- stops.
use Rattle.std.specs.Prelude.{◌≡◌, ◌≢◌, ℕ, ◌<◌, ◌≤◌, Bool, true, false, ◌&&◌, ◌||◌, nat_lt, List, [], ◌∷◌, ◌++◌, ◌-◌, length, take, Option, Some, None, Result, Ok, Err, ◌⊎◌, if◌then◌else◌}
use Rattle.std.specs.List.{All}
use Rattle.std.specs.Option.{option_and_then}
use Rattle.std.specs.declared.vec.Vec.{Vec}
use Rattle.gopher_tree.specs.Path.{names_of, has_bad_name, is_menu_path, path_in}
use Rattle.gopher_tree.specs.Files.{File, total_bytes}
use Rattle.gopher_tree.specs.Fault.{file_fault, files_fault, AddsFile}
use Rattle.gopher_tree.specs.Load.{IsUnreadable, Lists, StopsAt, StopsFull}
use Rattle.gopher_tree.specs.declared.fault.TreeFault.{TreeFault}
use Rattle.gopher_tree.specs.declared.fault.TreeFault.TheVariants.{BadName, Reserved, LongSelector, TooBig, BadMenuLine, Twice, Unreadable, NoMemory}
use Rattle.gopher_tree.specs.declared.load.left_out.LeftOut.{LeftOut}
use Rattle.gopher_tree.specs.declared.load.trail.Trail.{Trail}

-- a file with these bytes is left out for this fault: for its name, its selector or its own size
abbrev pub is_left_out : List ℕ → TreeFault → Bool
is_left_out bytes (BadName file) = true
is_left_out bytes (Reserved file) = false
is_left_out bytes (LongSelector file) = true
is_left_out bytes (TooBig file) = nat_lt 16777216 (length bytes)
is_left_out bytes (BadMenuLine file line) = false
is_left_out bytes (Twice file) = false
is_left_out bytes (Unreadable file) = true
is_left_out bytes NoMemory = false

-- the fault of a file after these files, if the file is left out for it
abbrev pub left_out_fault : List File → File → Option TreeFault
left_out_fault files file =
    option_and_then (λ fault. if is_left_out file.1 fault then Some fault else None)
    (file_fault files file)

-- no file can be below a folder with this path: one of its names is bad, or the last is `.menu`
abbrev pub is_bad_folder : List ℕ → Bool
is_bad_folder path = has_bad_name (names_of path) || is_menu_path path

-- the first fault of a folder alone, after `number` files; a bad name is one only for a walk that
-- leaves folders out
abbrev pub folder_fault : ℕ → Bool → List ℕ → Option TreeFault
folder_fault number leaves_out path =
    if nat_lt 254 (length path) then Some (LongSelector number) else
    (if leaves_out && is_bad_folder path then Some (BadName number) else None)

-- a walk that had listed these files leaves out a file or folder with this fault: the file has it,
-- the selector of the folder is too long, each file below the folder would have a bad name, or
-- something can't be read
abbrev pub LeavesOut : List File → List ℕ → TreeFault → Type 0
LeavesOut files path fault =
    ((bytes : List ℕ) × (left_out_fault files (path, bytes) ≡ Some fault))
    ⊎ (((254 < length path) × (fault ≡ LongSelector (length files)))
    ⊎ (((fault ≡ BadName (length files))
    × ((name bytes : List ℕ) → file_fault files (path_in path name, bytes) ≡ Some fault))
    ⊎ (fault ≡ Unreadable (length files))))

-- a walk that had listed some of these files, from the first, left this file or folder out
abbrev pub LeavesOutWithin : List File → LeftOut → Type 0
LeavesOutWithin files left =
    (before : List File) × (after : List File) × (files ≡ before ++ after)
    × LeavesOut before left.path.items left.fault

-- a walk that listed these files noted what it left out, and nothing else
abbrev pub AreLeftOut : List File → List LeftOut → List LeftOut → Type 0
AreLeftOut files old new =
    (added : List LeftOut) × (new ≡ old ++ added) × All (LeavesOutWithin files) added

-- a walk that leaves files and folders out stops at the end of its trail after these files: the
-- file there has the fault and isn't left out for it, there are too many nodes, or the walk is out
-- of memory
abbrev pub StopsBeyond : List File → Trail → TreeFault → Type 0
StopsBeyond files trail fault =
    ((bytes : List ℕ) × (length bytes ≤ trail.size) × (trail.bytes ≡ total_bytes files)
    × (file_fault files (trail.path.items, bytes) ≡ Some fault)
    × (left_out_fault files (trail.path.items, bytes) ≡ None))
    ⊎ StopsFull (length files) trail fault

-- a walk stops at the end of its trail; whether it leaves files and folders out comes first
abbrev pub StopsWalk : Bool → List File → Trail → TreeFault → Type 0
StopsWalk true files trail fault = StopsBeyond files trail fault
StopsWalk false files trail fault = StopsAt files trail fault

-- a walk that had listed `before` and noted `old` ends, or stops at the end of its trail after the
-- files that it has listed; `new` notes what it left out
abbrev pub WalksOn : Bool → List File → Trail → List LeftOut → List LeftOut
    → Result (List File) TreeFault → Type 0
WalksOn leaves_out before trail old new (Ok files) = Lists before files × AreLeftOut files old new
WalksOn leaves_out before trail old new (Err fault) =
    (files : List File) × Lists before files × AreLeftOut files old new
    × StopsWalk leaves_out files trail fault

-- loading a folder returns the tree of the files that the walk lists, and notes what it leaves out;
-- or it fails with the fault at which the walk stops, or because the folder itself can't be read
abbrev pub LoadsLeaving : Bool → Trail → List LeftOut → List LeftOut
    → Result (List File) TreeFault → Type 0
LoadsLeaving leaves_out trail old new (Ok files) =
    (files_fault files ≡ None) × AreLeftOut files old new
LoadsLeaving leaves_out trail old new (Err fault) =
    ((files : List File) × (files_fault files ≡ None) × AreLeftOut files old new
    × StopsWalk leaves_out files trail fault)
    ⊎ ((new ≡ old) × IsUnreadable 0 fault)

-- a file or folder was noted with this path and this fault
abbrev pub AddsLeftOut : List LeftOut → List LeftOut → List ℕ → TreeFault → Type 0
AddsLeftOut old new path fault =
    (left : LeftOut) × (new ≡ old ++ left ∷ []) × (left.path.items ≡ path) × (left.fault ≡ fault)

-- a folder was noted for names that can't be read, after `number` files
abbrev pub AddsUnreadable : List LeftOut → List LeftOut → List ℕ → ℕ → Type 0
AddsUnreadable old new path number =
    (added : List LeftOut) × (new ≡ old ++ added)
    × All (λ left. (left.path.items ≡ path) × (left.fault ≡ Unreadable number)) added

-- it was decided on a file after these files: it was listed, or noted and left out
abbrev pub Decides : {A : Type 0} → List File → File → Vec LeftOut A → Vec LeftOut A
    → List File → Type 0
Decides before file old new after =
    (AddsFile before file after × (new.items ≡ old.items))
    ⊎ ((after ≡ before)
    × ((fault : TreeFault) × (left_out_fault before file ≡ Some fault)
    × AddsLeftOut old.items new.items file.0 fault))

-- a walk may leave something out for this fault
abbrev pub MayLeaveOut : Bool → TreeFault → Type 0
MayLeaveOut leaves_out fault = (leaves_out ≡ true) × (fault ≢ NoMemory)

-- nothing is left out for this fault: the walk leaves nothing out, or it is out of memory
abbrev pub RefusesToLeaveOut : Bool → TreeFault → TreeFault → Type 0
RefusesToLeaveOut leaves_out fault error =
    (error ≡ NoMemory) ⊎ ((leaves_out ≡ false) × (error ≡ fault))

-- the last element was removed
abbrev pub OmitsLast : {A : Type 0} → List A → List A → Type 0
OmitsLast old new = new ≡ take (length old - 1) old
