use Rattle.std.proofs.Common.{◌≡◌, take}
use Rattle.gopher_index.specs.Answer.{occurring}
use Rattle.gopher_segment.specs.Segment.{pages_of}
use Rattle.gopher_index.proofs.occurrences.occurrences.Given as goal

abbrev pub invariant-loop-part : goal.invariant-loop-part
invariant-loop-part l = l.found.items ≡ occurring l.word (pages_of (take l.part-index l.parts))
