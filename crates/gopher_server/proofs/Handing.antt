-- The lines of a server thread, until it hands them on.
use Rattle.std.proofs.Common.{◌≡◌, false, arith}
use Rattle.std.proofs.lemmas.Bool.Decides.{nat_tests}
use Rattle.gopher_server.specs.Batch.{is_empty}
use Rattle.gopher_server.specs.ThreadLog.{OffersLines}
use Rattle.gopher_server.specs.declared.logging.thread_log.ThreadLog.{ThreadLog}

-- lines that were refused were offered again
pub offered_again : (a b c : ThreadLog) → OffersLines a b → is_empty b.batch ≡ false → OffersLines b c → OffersLines a c
offered_again a b c first some second = grind (arith, nat_tests)
