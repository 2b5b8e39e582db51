use Rattle.std.proofs.Common.{◌≡◌, ◌++◌, map}
use Rattle.std.specs.List.{flat_map}
use Rattle.gopher_item.specs.MenuLine.{menu_line_bytes}
use Rattle.gopher_tree.specs.Reply.{child_line}
use Rattle.gopher_tree.specs.Found.{lent_child}
use Rattle.gopher_tree.proofs.reply.push_names.Given as goal

abbrev pub invariant-loop-name : goal.invariant-loop-name
invariant-loop-name l = l.out.items ++ flat_map menu_line_bytes (map (child_line l.home l.front) (map lent_child l.name-iterator)) ≡ l.fn.out.items ++ flat_map menu_line_bytes (map (child_line l.home l.front) (map lent_child l.names.entries))
