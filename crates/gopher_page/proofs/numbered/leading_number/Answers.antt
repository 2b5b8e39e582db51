use Rattle.std.proofs.Common.{◌≡◌, ◌∙◌, arith, ℕ, List, ◌-◌, ◌*◌, ◌%◌, ◌^◌, length, drop, ap}
use Rattle.std.proofs.lemmas.List.{take_all, length-drop}
use Rattle.gopher_page.specs.Numbered.{leading, AreBytes}
use Rattle.gopher_page.proofs.Leading.{halves, second_half, no_second_half, leading_below}
use Rattle.gopher_page.proofs.numbered.leading_number.Goals as goal

pub returns-then-word-lt4 : goal.returns-then-word-lt4
returns-then-word-lt4 c =
    let bytes : AreBytes c.args.word.now = λ i. omega (arith, c.type_inv.word i) in
    omega (arith, c.first_few.ensures, no_second_half c.args.word.now c.if-word-lt4.true, leading_below 4 c.args.word.now bytes)

pub returns : goal.returns
returns c =
    let word : List ℕ = c.args.word.now in
    let bytes : AreBytes word = λ i. omega (arith, c.type_inv.word i) in
    let from : ℕ = c.min-end.result - 4 in
    let whole = take_all (length word - from) (drop from word) (omega (arith, length-drop from word)) in
    let second = second_half word c.min-end.result bytes c.if-word-lt4.false c.min-end.ensures in
    let last : c.first_four.result ≡ leading 4 (drop from word) = c.first_four.ensures ∙ ap (leading 4) whole in
    let shifted = ap (λ n. n * 2 ^ (64 - 8 * c.min-end.result) % 18446744073709551616 % 4294967296) last in
    omega (arith, c.first_four-2.ensures, shifted, second, halves word, leading_below 4 word bytes)
