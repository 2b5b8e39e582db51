use Rattle.std.proofs.Common.{sym, ap, length, arith}
use Rattle.std.proofs.lemmas.List.{length-map}
use Rattle.std.specs.Arc.{arc_value}
use Rattle.gopher_index.proofs.SettlingLemmas.{border_end, number_after, number_at}
use Rattle.gopher_index.proofs.installing.border.Goals as goal

pub returns-then-first-pages : goal.returns-then-first-pages
returns-then-first-pages c =
    let number = number_at 0 c.args.parts.now c.loop-at.at c.index-parts-at.result c.requires.consecutive (omega arith) c.index-parts-at.is in
    (omega arith, omega (arith, number))

pub returns-then-end-pages : goal.returns-then-end-pages
returns-then-end-pages c =
    let number = number_after c.args.parts.now c.in-Some.last.now c.requires.consecutive (sym c.in-Some.ensures.value) in
    border_end c.args.parts.now c.args.pages _ (omega arith) (omega (arith, number, c.requires.few, ap length c.pages.ensures, length-map c.pages.result.now arc_value))
