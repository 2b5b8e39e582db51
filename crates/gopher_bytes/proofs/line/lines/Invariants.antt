use Rattle.std.proofs.Common.{◌≡◌, ◌++◌, length, map}
use Rattle.gopher_bytes.specs.Lines.{lines_of}
use Rattle.gopher_bytes.proofs.line.lines.Given as goal

abbrev pub invariant-loop-line : goal.invariant-loop-line
invariant-loop-line l = map (λ line. line.now) l.found.items ++ lines_of l.rest ≡ lines_of l.bytes

abbrev pub decreases-loop-line : goal.decreases-loop-line
decreases-loop-line l = length l.rest
