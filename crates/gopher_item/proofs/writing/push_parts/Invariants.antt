use Rattle.std.proofs.Common.{◌≡◌, ◌++◌, take}
use Rattle.gopher_item.specs.MenuLine.{in_sequence}
use Rattle.gopher_item.proofs.writing.push_parts.Given as goal

abbrev pub invariant-loop-part : goal.invariant-loop-part
invariant-loop-part l = l.out.items ≡ l.fn.out.items ++ in_sequence (take l.part-index l.parts)
