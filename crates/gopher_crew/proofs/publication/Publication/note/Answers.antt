use Rattle.std.proofs.Common.{arith}
use Rattle.std.proofs.lemmas.Grind.{common_steps}
use Rattle.gopher_crew.proofs.publication.Publication.note.Goals as goal

pub of-requires-2-clause-legal : goal.of-requires-2-clause-legal
of-requires-2-clause-legal g c = grind (arith, common_steps)

pub returns-clause-note : goal.returns-clause-note
returns-clause-note g c = grind (arith, common_steps)
