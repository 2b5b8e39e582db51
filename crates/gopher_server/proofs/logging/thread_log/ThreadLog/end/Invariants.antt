use Rattle.gopher_server.specs.ThreadLog.{OffersLines}
use Rattle.gopher_server.proofs.logging.thread_log.ThreadLog.end.Given as goal

abbrev pub invariant-loop-try : goal.invariant-loop-try
invariant-loop-try g l = OffersLines l.fn.self l.self
