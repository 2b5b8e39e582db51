use Rattle.std.proofs.Common.{take, sym, ◌∙◌, arith, ◌==◌}
use Rattle.gopher_bytes.proofs.Splits.{list_any_before, list_any_nowhere}
use Rattle.gopher_serve.proofs.FirstLines.{take_through_at_first, first_line-fed, first_line-unfed}
use Rattle.gopher_serve.proofs.conversation.first_line.Goals as goal

pub returns-in-Some : goal.returns-in-Some
returns-in-Some c =
    let bytes = c.args.bytes.now in
    let end = c.in-Some.end in
    let found = c.in-Some.ensures in
    let unfed = list_any_before (λ b. b == 10) bytes end (omega (arith, found.0.high)) found.0.before in
    c.without_return.ensures ∙ sym (first_line-fed bytes (take end bytes) (take_through_at_first bytes end found.0.high unfed found.1))

pub returns-in-None : goal.returns-in-None
returns-in-None c = sym (first_line-unfed c.args.bytes.now (list_any_nowhere (λ b. b == 10) c.args.bytes.now c.in-None.ensures))
