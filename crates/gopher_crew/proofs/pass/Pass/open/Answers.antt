use Rattle.gopher_crew.proofs.Publishing.{admits}
use Rattle.gopher_crew.proofs.pass.Pass.open.Goals as goal

pub reader-requires : goal.reader-requires
reader-requires g c = admits g.C.Crew.history
