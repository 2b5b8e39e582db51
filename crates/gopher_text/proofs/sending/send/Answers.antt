use Rattle.std.proofs.Common.{◌≡◌, ◌-◌, take, drop, length, length-drop, arith}
use Rattle.std.proofs.lemmas.List.{take_all}
use Rattle.std.proofs.lemmas.Grind.{common_steps}
use Rattle.gopher_text.proofs.Streams.{appends_more, counts_nothing}
use Rattle.gopher_text.proofs.sending.send.Goals as goal

pub loop-sent-preserved-in-Ok : goal.loop-sent-preserved-in-Ok
loop-sent-preserved-in-Ok g c =
    let bytes = c.args.bytes.now in
    let sent = c.loop-sent.sent in
    let rest : take (length bytes - sent) (drop sent bytes) ≡ drop sent bytes = take_all _ _ (omega (arith, length-drop sent bytes)) in
    let wrote = rw rest at c.in-Ok.ensures.bytes in
    let same = counts_nothing c.loop-sent.writer.failures c.write.new.self.failures c.in-Ok.count _ c.in-Ok.ensures.count c.in-Ok.count-test.1 in
    let within = rw rest at c.in-Ok.ensures.bound in
    let before = c.loop-sent.invariant in (
      omega (arith, within, length-drop sent bytes),
      before.1,
      appends_more _ _ _ bytes sent _ before.2 wrote,
      omega (arith, same),
      omega (arith, same),
    )

pub returns-in-Ok-eq0-clause-sent : goal.returns-in-Ok-eq0-clause-sent
returns-in-Ok-eq0-clause-sent g c = grind (arith, common_steps)
