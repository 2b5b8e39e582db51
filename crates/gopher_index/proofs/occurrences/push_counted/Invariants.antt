use Rattle.std.proofs.Common.{◌≡◌, ℕ, false, List, ◌++◌, map, take}
use Rattle.std.specs.Arc.{arc_value}
use Rattle.gopher_index.specs.Answer.{occurring}
use Rattle.gopher_segment.specs.Segment.{meant_counts}
use Rattle.gopher_index.proofs.occurrences.push_counted.Given as goal

abbrev pub invariant-loop-index : goal.invariant-loop-index
invariant-loop-index l =
    (word : List ℕ) → l.counts ≡ meant_counts false word (map arc_value l.pages) → l.found.items ≡ l.initial.found.items ++ occurring word (map arc_value (take l.index l.pages))
