use Rattle.gopher_crew.specs.Work.{worker_data}
use Rattle.gopher_crew.proofs.Rounding.{leads_stays, leads_on, works_of}
use Rattle.gopher_crew.proofs.working.run.Goals as goal

pub loop-round-init : goal.loop-round-init
loop-round-init g c = leads_stays _ _

pub loop-round-preserved : goal.loop-round-preserved
loop-round-preserved g c = leads_on _ _ _ _ c.loop-round.invariant c.in_default.ensures

pub returns-in-Some-work_once : goal.returns-in-Some-work_once
returns-in-Some-work_once g c =
    works_of g.F.Calls.fetches g.F.Calls.called c.args.desk.now c.args.worker.now _ (worker_data c.loop-round.worker) c.in-Some-work_once.ensures.0
    c.loop-round.invariant c.in-Some-work_once.ensures.1
