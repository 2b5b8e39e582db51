use Rattle.std.proofs.Common.{◌≡◌}
use mathlib.Core.List.{IsPrefix}
use Rattle.gopher_crew.specs.History.{IsMadeBy}
use Rattle.gopher_crew.proofs.publication.entering.enter.Given as goal

abbrev pub invariant-loop-round : goal.invariant-loop-round
invariant-loop-round g l = record {
  history : l.prefix.history ≡ l.initial.prefix.history;
  begun : IsPrefix l.prefix.events l.catalogue;
  grows : IsPrefix l.initial.prefix.events l.prefix.events;
  made : IsMadeBy l.maker l.initial.prefix l.prefix;
}
