use Rattle.std.proofs.Common.{◌≡◌, drop, map}
use Rattle.toml.specs.View.{view}
use Rattle.gopher_scope.specs.Values.{first_of, element_problem}
use Rattle.gopher_scope.proofs.settings.tables.Element.elements_problem.Given as goal

abbrev pub invariant-loop-value : goal.invariant-loop-value
invariant-loop-value l =
    first_of (element_problem l.self) (map view (drop l.value-index l.values)) ≡ first_of (element_problem l.self) (map view l.values)
