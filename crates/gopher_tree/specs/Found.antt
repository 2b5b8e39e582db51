-- What a tree lends, as values of the definitions.
use Rattle.std.specs.Prelude.{◌≡◌, ℕ, List, map, Option, None, Some}
use Rattle.std.specs.BTreeMap.{BTreeMap}
use Rattle.std.specs.Option.{option_map}
use Rattle.std.specs.Borrow.{Bor}
use Rattle.std.specs.declared.vec.Vec.{Vec}
use Rattle.gopher_tree.specs.Files.{File, Child}
use Rattle.gopher_tree.specs.Reply.{Named, NamedFile, NamedFolder}
use Rattle.gopher_tree.specs.declared.tree.Node.{Node}
use Rattle.gopher_tree.specs.declared.tree.Node.TheVariants as node

-- a file of a list of vectors
abbrev pub file_data : {A B : Type 0} → Vec ℕ A × Vec ℕ B → File
file_data file = (file.0.items, file.1.items)

-- a file whose path and bytes are lent
abbrev pub lent_file : Bor (List ℕ) × Bor (List ℕ) → File
lent_file file = (file.0.now, file.1.now)

-- a child whose name is lent
abbrev pub lent_child : Bor (List ℕ) × ℕ → Child
lent_child child = (child.0.now, child.1)

-- the children in a map whose names are lent
abbrev pub listed : BTreeMap (Bor (List ℕ)) ℕ → List Child
listed children = map lent_child children.entries

abbrev pub child_data : Option (Bor (List ℕ) × ℕ) → Option Child
child_data child = option_map lent_child child

-- the node is the file or the folder that a selector names
abbrev pub Shows : Option Named → Option Node → Type 0
Shows (Some (NamedFile kind bytes)) (Some (node.File of_kind held)) =
    (of_kind ≡ kind) × (held.now ≡ bytes)
Shows (Some (NamedFolder path)) (Some node.Folder) = Unit {0}
Shows None None = Unit {0}
Shows _ _ = ⊥
