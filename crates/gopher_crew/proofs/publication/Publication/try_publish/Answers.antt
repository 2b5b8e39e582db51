use Rattle.std.proofs.Common.{drop, subst}
use mathlib.Core.List.{IsPrefix}
use Rattle.gopher_crew.specs.Publication.{PublicationData}
use Rattle.gopher_crew.specs.Version.{version_data}
use Rattle.gopher_crew.proofs.PublicationLemmas.{grows_on}
use Rattle.gopher_crew.proofs.publication.Publication.try_publish.Goals as goal

pub returns-clause-grows : goal.returns-clause-grows
returns-clause-grows g c =
    let before = c.self.inside.writer in
    let between = c.catch_up.new.writer in
    let after = c.publish_next.new.writer in
    subst (λ (it : PublicationData). IsPrefix it.published after.desk.shown.value.prefix.events) c.self.view_is
    (grows_on g.C.Crew.history _ before.desk.shown.value between.desk.shown.value after.desk.shown.value (version_data c.index.result.now c.self.inside.prefix)
    (drop before.behind before.log.items) (drop between.behind between.log.items) (drop after.behind after.log.items)
    c.self.invariant.goes_on c.self.invariant.begins (rw c.if-not-catch_up.false at c.catch_up.ensures) c.publish_next.ensures)
