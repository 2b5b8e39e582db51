use Rattle.std.proofs.Common.{Err}
use Rattle.gopher_script.proofs.Sends.{counts-grow, replays-kept}
use Rattle.gopher_hole.proofs.program.replay_all.Goals as goal

pub returns-in-Err : goal.returns-in-Err
returns-in-Err g c =
    let held = g.W.Write.contents in
    replays-kept {T = Unit {0}} _ _ c.args.input.now.failures c.replay.new.input.failures
    (held c.args.output.now.device) (held c.replay.new.output.device) (held c.flush.new.self.device)
    c.args.output.now.failures c.replay.new.output.failures c.flush.new.self.failures (Err c.in-Err.fault)
    c.flush.ensures.bytes (counts-grow _ _ c.flush.result c.flush.ensures.count) c.in-Err.ensures
