use Rattle.std.proofs.Common.{sym}
use Rattle.gopher_bytes.proofs.TrimSearches.{trim_back_found, trim_back_nowhere}
use Rattle.gopher_bytes.proofs.trim.trim_back.Goals as goal

pub returns-in-Some : goal.returns-in-Some
returns-in-Some c =
    let found = c.in-Some.ensures in
    sym (trim_back_found c.args.bytes.now c.in-Some.last found.0.high found.0.after found.1)

pub returns-in-None : goal.returns-in-None
returns-in-None c = sym (trim_back_nowhere c.args.bytes.now c.in-None.ensures)
