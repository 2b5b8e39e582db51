use Rattle.std.proofs.Common.{◌≡◌, ℕ, ◌<◌, length, get_or}
use Rattle.gopher_item.specs.Place.{PlaceData}
use Rattle.gopher_segment.specs.Ranks.{HasPosition}
use Rattle.gopher_segment.proofs.ranks.positions.Given as goal

abbrev pub invariant-loop-position : goal.invariant-loop-position
invariant-loop-position l = record {
  each : length l.ranks.items ≡ length l.sorted;
  positions : (k : ℕ) (e : PlaceData × ℕ) → k < l.position → HasPosition l.sorted l.ranks.items (get_or l.sorted k e).1;
}
