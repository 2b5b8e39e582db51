use Rattle.std.proofs.Common.{◌+◌, ◌-◌, ◌<◌, ◌≤◌, length, take}
use Rattle.std.specs.Io.KnownBytes.{Appends}
use Rattle.gopher_text.proofs.sending.send.Given as goal

-- the counted bytes were sent, and each failure so far was an interruption
abbrev pub invariant-loop-sent : goal.invariant-loop-sent
invariant-loop-sent g l =
    (l.sent ≤ length l.bytes) × (l.interruptions < 4096)
    × Appends (g.W.Write.contents l.initial.writer.device) (g.W.Write.contents l.writer.device) (take l.sent l.bytes)
    × (l.initial.writer.failures ≤ l.writer.failures) × (l.writer.failures ≤ l.initial.writer.failures + l.interruptions)

abbrev pub decreases-loop-sent : goal.decreases-loop-sent
decreases-loop-sent g l = length l.bytes - l.sent + (4096 - l.interruptions)
