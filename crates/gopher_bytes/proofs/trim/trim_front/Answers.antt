use Rattle.std.proofs.Common.{◌∙◌, sym, arith}
use Rattle.std.proofs.lemmas.List.{take_all, length-drop}
use Rattle.gopher_bytes.proofs.TrimSearches.{trim_front_found, trim_front_nowhere}
use Rattle.gopher_bytes.proofs.trim.trim_front.Goals as goal

pub returns-in-Some : goal.returns-in-Some
returns-in-Some c =
    let found = c.in-Some.ensures in
    take_all _ _ (omega (arith, length-drop c.in-Some.start c.args.bytes.now))
    ∙ sym (trim_front_found c.args.bytes.now c.in-Some.start found.0.high found.0.before found.1)

pub returns-in-None : goal.returns-in-None
returns-in-None c = sym (trim_front_nowhere c.args.bytes.now c.in-None.ensures)
