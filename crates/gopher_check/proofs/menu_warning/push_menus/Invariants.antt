use Rattle.std.proofs.Common.{◌≡◌, ◌++◌, map, take}
use Rattle.gopher_tree.specs.Found.{lent_file}
use Rattle.gopher_check.specs.MenuWarning.{warned_in}
use Rattle.gopher_check.proofs.menu_warning.push_menus.Given as goal

abbrev pub invariant-loop-menu : goal.invariant-loop-menu
invariant-loop-menu l =
    l.out.items ≡ l.fn.out.items ++ warned_in l.tree l.home (map lent_file (take l.menu-index l.menus))
