use Rattle.std.proofs.Common.{◌≡◌, fold, map, drop}
use Rattle.std.specs.List.{filter_map}
use Rattle.gopher_tree.specs.Files.{child_below, add_child, children}
use Rattle.gopher_tree.specs.Found.{lent_child}
use Rattle.gopher_tree.proofs.tree.Tree.children.Given as goal

abbrev pub invariant-loop-file : goal.invariant-loop-file
invariant-loop-file l = fold add_child (map lent_child l.children.entries) (filter_map (child_below l.folder) (drop l.file-index l.self)) ≡ children l.self l.folder
