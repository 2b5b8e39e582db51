use Rattle.std.proofs.Common.{◌≡◌, ◌≤◌, length}
use Rattle.gopher_page.specs.Words.{word_runs}
use Rattle.gopher_page.proofs.word.next_token.Given as goal

abbrev pub invariant-loop-run : goal.invariant-loop-run
invariant-loop-run l = record {
  same : word_runs l.rest ≡ word_runs l.text;
  shorter : length l.rest ≤ length l.text;
}

abbrev pub decreases-loop-run : goal.decreases-loop-run
decreases-loop-run l = length l.rest
