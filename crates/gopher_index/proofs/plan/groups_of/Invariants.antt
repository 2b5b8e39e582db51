use Rattle.std.proofs.Common.{◌<◌, ◌≤◌, length, take}
use Rattle.gopher_index.specs.Plan.{AreTermGroups}
use Rattle.gopher_index.proofs.plan.groups_of.Given as goal

abbrev pub invariant-loop-number : goal.invariant-loop-number
invariant-loop-number l = record {
  groups_are : AreTermGroups (take l.number l.terms) l.groups.items;
  some : 0 < l.number → 0 < length l.groups.items;
  most : length l.groups.items ≤ l.number;
}
