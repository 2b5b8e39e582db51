use Rattle.gopher_serve.proofs.ServedLemmas as served
use Rattle.gopher_serve.proofs.laws.clients_receive_prefixes.Goals as goal

pub returns : goal.returns
returns g c = served.clients_receive_prefixes g.A.Answers.gives g.A.Answers.leads_to g.R.Read.remaining g.W.Write.contents
