use Rattle.std.proofs.Common.{◌≡◌, ◌<◌, sym, ◌∙◌, arith}
use Rattle.std.proofs.lemmas.Bool.{lt-leb}
use Rattle.std.specs.Option.{option_copied}
use Rattle.gopher_page.specs.Counts.{is_before}
use Rattle.gopher_segment.specs.Rows.{is_lower}
use Rattle.gopher_segment.proofs.NumberLemmas.{never_lower}
use Rattle.gopher_segment.proofs.merging.is_lower.Goals as goal

pub returns-else-number : goal.returns-else-number
returns-else-number c =
    let above : c.number-in-Some-Some.result < c.number.result = omega (arith, c.if-number.false) in
    let is : is_lower (option_copied c.args.word) (option_copied c.args.lowest) ≡ is_before c.in-Some-Some.word.now c.in-Some-Some.low.now =
    λ i. is_lower (option_copied (c.in-Some-Some.is-0 i)) (option_copied (c.in-Some-Some.is-1 i))
    in
    lt-leb c.number.result c.number-in-Some-Some.result above
    ∙ sym (is ∙ never_lower c.number.result c.number-in-Some-Some.result c.in-Some-Some.word.now c.in-Some-Some.low.now c.number.ensures c.number-in-Some-Some.ensures above)
