use Rattle.std.proofs.Common.{arith}
use Rattle.std.proofs.lemmas.Grind.{common_steps}
use Rattle.gopher_scope.proofs.Elements.{array_spot-view}
use Rattle.gopher_scope.proofs.settings.tables.Element.spot.Goals as goal

pub returns-in-Some : goal.returns-in-Some
returns-in-Some c =
    rw (← c.in-Some.ensures, array_spot-view c.args.self c.in-Some.array.now.items) (grind (arith, common_steps))

pub returns-in-Some-2 : goal.returns-in-Some-2
returns-in-Some-2 c =
    rw (← c.in-Some-2.ensures, array_spot-view c.args.self c.in-Some-2.field-0.now.items) (grind (arith, common_steps))
