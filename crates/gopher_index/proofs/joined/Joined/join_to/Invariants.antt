use Rattle.std.proofs.Common.{◌-◌, ◌≤◌}
use Rattle.gopher_index.specs.Joined.{AreJoined}
use Rattle.gopher_index.proofs.joined.Joined.join_to.Given as goal

abbrev pub invariant-loop-self : goal.invariant-loop-self
invariant-loop-self l = record {
  cells : AreJoined l.groups l.part.pages l.self;
  most : l.self.groups ≤ l.fn.end;
}

abbrev pub decreases-loop-self : goal.decreases-loop-self
decreases-loop-self l = l.fn.end - l.self.groups
