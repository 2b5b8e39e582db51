use Rattle.std.proofs.Common.{◌≡◌, ◌++◌, take}
use Rattle.gopher_server.specs.RequestLine.{escaped}
use Rattle.gopher_server.proofs.logging.request_line.push_escaped.Given as goal

abbrev pub invariant-loop-byte : goal.invariant-loop-byte
invariant-loop-byte l = l.out.items ≡ l.fn.out.items ++ escaped (take l.byte-index l.bytes)
