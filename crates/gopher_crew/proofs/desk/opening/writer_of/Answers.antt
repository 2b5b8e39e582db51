use Rattle.std.proofs.Common.{subst, sym}
use Rattle.gopher_crew.specs.Version.{VersionData, IsVersion}
use Rattle.gopher_crew.proofs.Publishing.{first_shows}
use Rattle.gopher_crew.proofs.desk.opening.writer_of.Goals as goal

pub new-requires-clause-rule : goal.new-requires-clause-rule
new-requires-clause-rule g c =
    let history = g.C.Crew.history in
    first_shows history c.in_ok-first.first
    (subst (λ (it : VersionData). IsVersion history it) (sym c.in_ok-first.ensures) (record { history_is = c.requires.history; pages_are = c.requires.pages; legal = c.requires.legal }))
