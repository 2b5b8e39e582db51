use Rattle.gopher_item.proofs.FieldLemmas as lemmas
use Rattle.gopher_item.proofs.item.four_fields.Goals as goal

pub returns : goal.returns
returns c =
    let one = rw c.in_default-Some.is-1 at c.in_ok-first.ensures in
    let two = rw c.in_default-Some.is-1 at (rw c.in_default-Some-2.is-1 at c.in_ok-second.ensures) in
    let three = rw c.in_default-Some-2.is-1 at (rw c.in_default-Some-3.is-1 at c.in_ok-third.ensures) in
    let four = rw c.in_default-Some-3.is-1 at c.in_ok-last_field.ensures in
    lemmas.four_fields c.args.line.now _ _ _ _ _ _ _ one two three four
