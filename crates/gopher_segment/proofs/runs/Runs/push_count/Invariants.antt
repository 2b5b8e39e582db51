use Rattle.std.proofs.Common.{◌≡◌, ◌++◌}
use Rattle.gopher_segment.specs.Postings.{pieces}
use Rattle.gopher_segment.proofs.runs.Runs.push_count.Given as goal

abbrev pub invariant-loop-left : goal.invariant-loop-left
invariant-loop-left l = record {
  whole : l.self.whole ≡ l.initial.self.whole;
  begun : l.self.begun ++ pieces l.page l.left ≡ l.initial.self.begun ++ pieces l.page l.count;
}

abbrev pub decreases-loop-left : goal.decreases-loop-left
decreases-loop-left l = l.left
