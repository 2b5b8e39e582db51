use Rattle.std.proofs.Common.{◌≡◌, ◌++◌, map, take}
use Rattle.std.specs.List.{flat_map}
use Rattle.gopher_tree.specs.Found.{lent_file}
use Rattle.gopher_scope.specs.Warnings.{menu_warnings}
use Rattle.gopher_scope.proofs.report.links.push_dead_lines.Given as goal

abbrev pub invariant-loop-menu : goal.invariant-loop-menu
invariant-loop-menu l =
    l.out.items ≡ l.fn.out.items ++ flat_map (menu_warnings l.site) (map lent_file (take l.menu-index l.menus))
