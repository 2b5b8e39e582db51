use Rattle.std.proofs.Common.{◌≡◌, false, Result, Ok, Err, OnOk, is_err, sym}
use Rattle.std.proofs.lemmas.List.Elements.{recursion_from_All}
use Rattle.gopher_item.specs.MenuLine.{IsMenuLine}
use Rattle.gopher_item.proofs.ReadBack.{read_back}
use Rattle.gopher_item.proofs.writing.write_menu.Goals as goal

held_at_ok : {T E P : Type 0} (r : Result T E) → is_err r ≡ false → OnOk r P → P
held_at_ok (Ok x) e p = p
held_at_ok (Err x) e p = absurd cc

pub returns-clause-read_back : goal.returns-clause-read_back
returns-clause-read_back c =
    read_back c.args.lines.now
    (recursion_from_All IsMenuLine c.args.lines.now (held_at_ok c.push_lines.result (sym c.if-is_err.ensures.value) c.push_lines.ensures.plain))
