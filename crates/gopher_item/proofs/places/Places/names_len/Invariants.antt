use Rattle.std.proofs.Common.{◌≡◌, ◌+◌, ◌≤◌, ◌⊎◌}
use Rattle.gopher_item.specs.Places.{names_len}
use Rattle.gopher_item.proofs.places.Places.names_len.Given as goal

abbrev pub invariant-loop-place : goal.invariant-loop-place
invariant-loop-place l = record {
  most : l.names + names_len l.place-iterator ≤ names_len l.self;
  exact : (l.names + names_len l.place-iterator ≡ names_len l.self) ⊎ (18446744073709551615 ≤ l.names);
}
