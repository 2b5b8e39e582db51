use Rattle.std.proofs.Common.{◌≡◌, ◌++◌, length}
use Rattle.std.specs.List.{flat_map}
use Rattle.gopher_item.specs.MenuLine.{menu_line_bytes}
use Rattle.gopher_tree.specs.MenuFile.{written_menu}
use Rattle.gopher_tree.proofs.menu_file.push_written_lines.Given as goal

abbrev pub invariant-loop-line : goal.invariant-loop-line
invariant-loop-line l = l.out.items ++ flat_map menu_line_bytes (written_menu l.home l.rest) ≡ l.fn.out.items ++ flat_map menu_line_bytes (written_menu l.home l.bytes)

abbrev pub decreases-loop-line : goal.decreases-loop-line
decreases-loop-line l = length l.rest
