use Rattle.std.proofs.Common.{sym, take, drop, take-append-drop}
use Rattle.gopher_script.proofs.replaying.send_all.Goals as goal

pub returns-in-Err : goal.returns-in-Err
returns-in-Err g c =
    let sent = c.in-Err.field-0.sent in
    let answer = c.args.answer.now in
    ((take sent answer, drop sent answer, sym (take-append-drop sent answer), c.in-Err.ensures.sent), c.in-Err.ensures.failed, c.in-Err.ensures.interruptions.0)
