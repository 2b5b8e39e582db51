use Rattle.std.proofs.Common.{◌≡◌, ◌∙◌, length, sum_by, ap, arith}
use Rattle.std.specs.Arc.{arc_value}
use Rattle.gopher_page.specs.Page.{menu_links}
use Rattle.gopher_page.proofs.Few.{few_menu_links}
use Rattle.gopher_page.proofs.Short.{short_menu}
use Rattle.gopher_page.proofs.page.page_of_menu.Goals as goal

pub page_of_lines-requires-clause-short : goal.page_of_lines-requires-clause-short
page_of_lines-requires-clause-short c =
    omega (arith, c.requires.small, short_menu c.args.bytes.now, ap (sum_by length) c.of_menu.ensures)

pub page_of_lines-requires-clause-few : goal.page_of_lines-requires-clause-few
page_of_lines-requires-clause-few c =
    let links : arc_value c.in_ok-links.links ≡ menu_links c.args.scope.now c.args.bytes.now = c.in_ok-links.ensures.ok ∙ c.in_ok-links_of_menu.ensures in
    omega (arith, c.requires.small, ap length links, few_menu_links c.args.scope.now c.args.bytes.now)
