use Rattle.std.proofs.Common.{◌≡◌, ◌+◌, ◌≤◌, vec_len, vec_capacity}
use Rattle.gopher_crew.proofs.Pairing.{Paired}
use Rattle.gopher_crew.proofs.working.crawling.workers_of.Given as goal

abbrev pub invariant-loop-fetcher : goal.invariant-loop-fetcher
invariant-loop-fetcher g l = record {
  paired : Paired (λ pair worker. (worker.fetcher ≡ pair.0) × (worker.share ≡ pair.1)) l.fn.pairs.items l.pairs.items l.workers.items;
  len : vec_len l.workers + vec_len l.pairs ≡ vec_len l.fn.pairs;
  room : vec_len l.workers + vec_len l.pairs ≤ vec_capacity l.workers;
}

abbrev pub decreases-loop-fetcher : goal.decreases-loop-fetcher
decreases-loop-fetcher g l = vec_len l.pairs
