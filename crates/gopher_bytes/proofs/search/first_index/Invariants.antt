use Rattle.std.proofs.Common.{◌-◌, ◌<◌, ◌≤◌, true, false}
use Rattle.gopher_bytes.proofs.search.first_index.Given as goal

abbrev pub invariant-loop-low : goal.invariant-loop-low
invariant-loop-low g l = record {
  forward : l.start ≤ l.low;
  order : l.low ≤ l.high;
  within : l.high ≤ l.end;
  before : l.start < l.low → goal.F-post g l.holds (l.low - 1) false;
  here : l.high < l.end → goal.F-post g l.holds l.high true;
}

abbrev pub decreases-loop-low : goal.decreases-loop-low
decreases-loop-low g l = l.high - l.low
