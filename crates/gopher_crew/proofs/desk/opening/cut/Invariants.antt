use Rattle.std.proofs.Common.{◌≡◌, ◌+◌, ◌-◌, ◌≤◌, ◌∷◌, vec_capacity}
use Rattle.gopher_crew.specs.Desk.{share_at, others_at}
use Rattle.gopher_crew.proofs.desk.opening.cut.Given as goal

abbrev pub invariant-loop-index : goal.invariant-loop-index
invariant-loop-index g l = record {
  parts : l.whole.parts + l.index + 1 ≡ l.shares;
  amount : l.whole.amount ≡ 0;
  list : l.list.items ≡ share_at l.prefix.events 0 l.events (17 - l.shares) ∷ others_at l.prefix.events l.index;
  room : l.shares ≤ vec_capacity l.list;
}
