use Rattle.std.proofs.Common.{◌≡◌}
use mathlib.Core.List.{IsPrefix}
use Rattle.gopher_crew.proofs.desk.Desk.next.Given as goal

abbrev pub invariant-loop-round : goal.invariant-loop-round
invariant-loop-round g l = record {
  number : l.share.number ≡ l.initial.share.number;
  events : l.share.events ≡ l.initial.share.events;
  parts : l.share.parts ≡ l.initial.share.parts;
  seen : IsPrefix l.initial.share.seen l.share.seen;
  makers : IsPrefix l.initial.share.makers l.share.makers;
}
