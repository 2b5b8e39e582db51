use Rattle.std.proofs.Common.{◌≡◌, take, OnOk, Result, Ok, Err, arith}
use Rattle.std.proofs.lemmas.List.{take_all}
use Rattle.std.proofs.lemmas.List.Elements.{All-more}
use Rattle.std.proofs.lemmas.Grind.{common_steps}
use Rattle.gopher_item.specs.MenuLine.{IsMenuLine}
use Rattle.gopher_item.proofs.writing.push_lines.Goals as goal

ok_keeps : {T E P : Type 0} (r : Result T E) → P → OnOk r P
ok_keeps (Ok x) p = p
ok_keeps (Err e) p = tt

pub loop-line-preserved : goal.loop-line-preserved
loop-line-preserved c =
    let lines = c.args.lines.now in
    let index = c.loop-line.line-index in
    let line = c.line-item.result in (
      All-more IsMenuLine lines index line c.loop-line-test.true c.loop-line.invariant.0 (rw (← c.line-item.is) c.kind.ensures.plain),
      grind (arith, common_steps, c.in_ok-push_menu_line.ensures.written, c.loop-line.invariant.1, c.line-item.is),
    )

pub returns-clause-plain : goal.returns-clause-plain
returns-clause-plain c =
    let whole : take c.loop-line.line-index c.args.lines.now ≡ c.args.lines.now = take_all _ _ (omega arith) in
    ok_keeps c.push_last_line.result (rw whole at c.loop-line.invariant.0)
