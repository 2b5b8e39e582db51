use Rattle.std.proofs.Common.{◌≡◌, ◌-◌, ◌≤◌, ◌++◌, length, drop}
use Rattle.std.specs.List.{zip}
use Rattle.gopher_page.specs.Counts.{run_lengths}
use Rattle.gopher_page.proofs.counts.push_runs.Given as goal

abbrev pub invariant-loop-start : goal.invariant-loop-start
invariant-loop-start l = record {
  runs : zip l.distinct l.counts ++ run_lengths (drop l.start l.words) ≡ run_lengths l.words;
  same : length l.counts ≡ length l.distinct;
  within : l.start ≤ length l.words;
}

abbrev pub decreases-loop-start : goal.decreases-loop-start
decreases-loop-start l = length l.words - l.start
