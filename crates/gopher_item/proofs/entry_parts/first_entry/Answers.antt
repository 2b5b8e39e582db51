use Rattle.std.proofs.Common.{◌∷◌, ◌∙◌, ap, sym, arith}
use Rattle.gopher_bytes.specs.Lines.{lines_of}
use Rattle.gopher_item.specs.Menu.{entries_of}
use Rattle.gopher_item.proofs.MenuLemmas.{entries_of-line, entries_of-empty}
use Rattle.gopher_item.proofs.entry_parts.first_entry.Goals as goal

pub returns-then-not-is_empty-clause-entry : goal.returns-then-not-is_empty-clause-entry
returns-then-not-is_empty-clause-entry c =
    let line = c.in-Some.line.now in
    let rest = lines_of c.in-Some.after.now in
    sym c.loop-line.invariant.same ∙ ap entries_of c.in-Some.ensures.line
    ∙ entries_of-line line rest (sym c.if-is_last_line.ensures) (sym c.if-not-is_empty.ensures)
    ∙ ap (λ entry. entry ∷ entries_of rest) (sym c.entry_of.ensures)

pub loop-line-preserved : goal.loop-line-preserved
loop-line-preserved c =
    let line = c.in-Some.line.now in
    let rest = lines_of c.in-Some.after.now in record {
      same =
          sym (ap entries_of c.in-Some.ensures.line ∙ entries_of-empty line rest (sym c.if-is_last_line.ensures) (sym c.if-not-is_empty.ensures))
          ∙ c.loop-line.invariant.same;
      within = omega (arith, c.in-Some.ensures.shorter, c.loop-line.invariant.within);
    }
