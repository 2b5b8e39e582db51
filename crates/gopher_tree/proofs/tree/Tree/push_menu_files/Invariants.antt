use Rattle.std.proofs.Common.{◌≡◌, map, take}
use Rattle.gopher_tree.specs.Files.{menu_files}
use Rattle.gopher_tree.specs.Found.{lent_file}
use Rattle.gopher_tree.proofs.tree.Tree.push_menu_files.Given as goal

abbrev pub invariant-loop-file : goal.invariant-loop-file
invariant-loop-file l = map lent_file l.menus.items ≡ menu_files (take l.file-index l.self)
