use Rattle.gopher_item.specs.Leads.{Leads}
use Rattle.gopher_crew.specs.Rounds.{begun, Round}
use Rattle.gopher_crew.specs.Work.{worker_data}
use Rattle.gopher_crew.proofs.working.run.Given as goal

abbrev pub invariant-loop-round : goal.invariant-loop-round
invariant-loop-round g l =
    Leads (Round g.F.Calls.fetches g.F.Calls.called l.fn.desk) (begun (l.initial.worker.fetcher, l.initial.worker.share)) (worker_data l.worker)
