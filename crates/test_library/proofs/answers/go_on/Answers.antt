use Rattle.std.proofs.Common.{◌++◌, ap}
use Rattle.test_library.proofs.answers.go_on.Goals as goal

-- a new blank has no events, so it has those of any record
pub opened-desk-requires-clause-begun : goal.opened-desk-requires-clause-begun
opened-desk-requires-clause-begun g c = (c.args.begun, ap (λ events. events ++ c.args.begun) c.requires.begun)
