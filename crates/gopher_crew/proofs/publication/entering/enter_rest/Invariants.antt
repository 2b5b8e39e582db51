use Rattle.std.proofs.Common.{◌≡◌, length}
use mathlib.Core.List.{IsPrefix}
use Rattle.gopher_crew.specs.History.{IsMadeBy}
use Rattle.gopher_crew.proofs.publication.entering.enter_rest.Given as goal

abbrev pub invariant-loop-index : goal.invariant-loop-index
invariant-loop-index l = record {
  history : l.prefix.history ≡ l.initial.prefix.history;
  begun : IsPrefix l.prefix.events l.catalogue;
  grows : IsPrefix l.initial.prefix.events l.prefix.events;
  made : IsMadeBy l.maker l.initial.prefix l.prefix;
  at : l.index ≡ length l.prefix.events;
}
