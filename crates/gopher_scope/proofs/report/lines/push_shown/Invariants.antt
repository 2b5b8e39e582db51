use Rattle.std.proofs.Common.{◌≡◌, ◌++◌, take}
use Rattle.std.specs.List.{flat_map}
use Rattle.gopher_scope.specs.Lines.{shown_byte}
use Rattle.gopher_scope.proofs.report.lines.push_shown.Given as goal

abbrev pub invariant-loop-byte : goal.invariant-loop-byte
invariant-loop-byte l = l.out.items ≡ l.fn.out.items ++ flat_map shown_byte (take l.byte-index l.bytes)
