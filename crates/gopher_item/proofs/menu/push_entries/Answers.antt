use Rattle.std.proofs.Common.{◌++◌, [], ap, sym, refl, ◌∙◌, append_assoc, length-append, arith, length}
use Rattle.gopher_bytes.specs.Lines.{any_last_line, lines_of}
use Rattle.gopher_bytes.proofs.Splits.{any_last_line-line}
use Rattle.gopher_item.specs.Menu.{entries_of}
use Rattle.gopher_item.proofs.MenuLemmas.{entries_of-line, entries_of-empty, stands_in_rest, still_left}
use Rattle.gopher_item.proofs.menu.push_entries.Goals as goal

pub loop-line-preserved-in_ok-push : goal.loop-line-preserved-in_ok-push
loop-line-preserved-in_ok-push c =
    let line = c.in-Some.line.now in
    let rest = lines_of c.in-Some.after.now in
    let so_far = c.loop-line.entries.items in
    let other = sym c.if-is_last_line.ensures in
    let left = c.loop-line.invariant.2 in
    let first = c.in-Some.ensures.line in (
      rw (c.in_ok-push.ensures.items, c.in_ok-entry_of.ensures, append_assoc)
          (ap (λ e. so_far ++ e) (sym (ap entries_of first ∙ entries_of-line line rest other (sym c.if-not-is_empty.ensures))) ∙ c.loop-line.invariant.0),
      sym (ap any_last_line first ∙ any_last_line-line line rest other) ∙ c.loop-line.invariant.1,
      still_left _ left.0 _ line c.in-Some.after.now left.1 c.in-Some.ensures.whole,
    )

pub loop-line-preserved : goal.loop-line-preserved
loop-line-preserved c =
    let line = c.in-Some.line.now in
    let rest = lines_of c.in-Some.after.now in
    let other = sym c.if-is_last_line.ensures in
    let left = c.loop-line.invariant.2 in
    let first = c.in-Some.ensures.line in (
      ap (λ e. c.loop-line.entries.items ++ e) (sym (ap entries_of first ∙ entries_of-empty line rest other (sym c.if-not-is_empty.ensures))) ∙ c.loop-line.invariant.0,
      sym (ap any_last_line first ∙ any_last_line-line line rest other) ∙ c.loop-line.invariant.1,
      still_left _ left.0 _ line c.in-Some.after.now left.1 c.in-Some.ensures.whole,
    )

pub loop-line-init : goal.loop-line-init
loop-line-init c = (ap (λ e. e ++ entries_of (lines_of c.as_slice-bytes.result.now)) c.requires, refl, ([], refl))

pub overflow_sub-start : goal.overflow_sub-start
overflow_sub-start c =
    let left = c.loop-line.invariant.2 in
    omega (arith, ap length left.1, length-append left.0 c.loop-line.rest.now)

pub entry_of-requires-clause-stands : goal.entry_of-requires-clause-stands
entry_of-requires-clause-stands c =
    let left = c.loop-line.invariant.2 in
    stands_in_rest _ c.as_slice-bytes.result.now left.0 c.loop-line.rest.now c.in-Some.line.now c.in-Some.after.now
    (sym (c.as_slice-bytes.ensures ∙ c.deref.ensures)) left.1 c.in-Some.ensures.whole
