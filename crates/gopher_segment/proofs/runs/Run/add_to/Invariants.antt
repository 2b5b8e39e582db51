use Rattle.std.proofs.Common.{◌≡◌, ℕ, ◌+◌, ◌<◌, length, get_or, take}
use Rattle.std.specs.List.{zip}
use Rattle.gopher_segment.specs.Postings.{count_in}
use Rattle.gopher_segment.proofs.runs.Run.add_to.Given as goal

abbrev pub invariant-loop-index : goal.invariant-loop-index
invariant-loop-index l = (k : ℕ) → k < length l.cells → get_or l.cells k 0 ≡ get_or l.initial.cells k 0 + count_in (l.first + k) (take l.index (zip l.self-inside.pages.now l.self-inside.counts.now))
