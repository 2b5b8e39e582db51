use Rattle.std.proofs.Common.{◌≡◌, rules}
use Rattle.gopher_crew.proofs.Pairing.{one_more_paired}
use Rattle.gopher_crew.proofs.working.crawling.workers_of.Goals as goal

pub loop-fetcher-preserved : goal.loop-fetcher-preserved
loop-fetcher-preserved g c =
    let idle : (c.idle.result.fetcher ≡ c.in-Some.fetcher) × (c.idle.result.share ≡ c.in-Some.share) = (c.idle.ensures.fetcher, c.idle.ensures.share) in
    record {
      paired =
          one_more_paired _ c.args.pairs.items c.loop-fetcher.pairs.items c.pop.new.self.items (c.in-Some.fetcher, c.in-Some.share)
          c.loop-fetcher.workers.items c.push_reserved.new.self.items c.idle.result c.in-Some.ensures.items c.push_reserved.ensures.items idle c.loop-fetcher.invariant.paired;
      len = search rules;
      room = search rules;
    }
