use Rattle.std.proofs.Common.{◌≡◌, drop, map}
use Rattle.std.specs.List.{list_any}
use Rattle.gopher_tree.specs.Found.{lent_file}
use Rattle.gopher_scope.specs.Warnings.{menu_offers}
use Rattle.gopher_scope.proofs.report.links.offers_search.Given as goal

abbrev pub invariant-loop-menu : goal.invariant-loop-menu
invariant-loop-menu l =
    list_any (λ menu. menu_offers l.site.home menu.1) (map lent_file (drop l.menu-index l.menus)) ≡ list_any (λ menu. menu_offers l.site.home menu.1) (map lent_file l.menus)
