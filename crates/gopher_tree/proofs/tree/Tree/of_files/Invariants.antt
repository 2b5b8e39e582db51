use Rattle.std.proofs.Common.{◌≡◌, ◌++◌, None, map}
use Rattle.std.specs.Vec.Iter.{into_iter_items}
use Rattle.gopher_tree.specs.Fault.{fault_after, files_fault, first_fault}
use Rattle.gopher_tree.specs.Found.{file_data}
use Rattle.gopher_tree.proofs.tree.Tree.of_files.Given as goal

abbrev pub invariant-loop-path : goal.invariant-loop-path
invariant-loop-path l =
    (fault_after l.tree (map file_data (into_iter_items l.path-iterator)) ≡ files_fault (map file_data l.fn.files.items))
    × (first_fault l.tree ≡ None)
    × (l.tree ++ map file_data (into_iter_items l.path-iterator) ≡ map file_data l.fn.files.items)
