use Rattle.std.proofs.Common.{refl}
use Rattle.gopher_catalogue.proofs.ArchiveLemmas.{stands_on}
use Rattle.gopher_crew.proofs.working.merge_job.MergeJob.due_in.Goals as goal

pub returns-clause-stands : goal.returns-clause-stands
returns-clause-stands g c =
    stands_on c.self.inside.due c.self.inside.prefix.events c.args.prefix.now.events
    (c.if-not-begins.ensures.begins refl).events c.self.invariant.stands
