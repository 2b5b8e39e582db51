use Rattle.std.proofs.Common.{rules}
use Rattle.gopher_crew.proofs.Pairing.{zip_from_each}
use Rattle.gopher_crew.proofs.working.crawling.run_all.Goals as goal

pub returns-clause-each : goal.returns-clause-each
returns-clause-each g c =
    zip_from_each _ c.args.workers.now c.for_each_mut.new.s (search rules)
    (λ i d less. let turn = (c.for_each_mut.ensures i d less).1 in rw (turn.argument_is, turn.left) at turn.call)
