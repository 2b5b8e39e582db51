use Rattle.std.proofs.Common.{◌≡◌, ◌++◌, take, All}
use Rattle.std.specs.List.{flat_map}
use Rattle.gopher_item.specs.MenuLine.{IsMenuLine, menu_line_bytes}
use Rattle.gopher_item.proofs.writing.push_lines.Given as goal

abbrev pub invariant-loop-line : goal.invariant-loop-line
invariant-loop-line l = All IsMenuLine (take l.line-index l.lines) × (l.out.items ≡ l.fn.out.items ++ flat_map menu_line_bytes (take l.line-index l.lines))
