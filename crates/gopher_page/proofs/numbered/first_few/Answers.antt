use Rattle.std.proofs.Common.{◌≡◌, ◌≤◌, ◌<◌, suc, ℕ, length, get_or, refl, ap, arith, ◌∙◌}
use Rattle.std.proofs.lemmas.List.{get_or_past}
use Rattle.std.specs.Int.{from_be_bytes, w32}
use Rattle.gopher_page.specs.Numbered.{leading}
use Rattle.gopher_page.proofs.Leading.{half_is}
use Rattle.gopher_page.proofs.numbered.first_few.Goals as goal
use Rattle.gopher_page.proofs.numbered.first_few.Goals.{in-empty, in-len1, in-len2, in-len3-up}

pub returns : goal.returns
returns c =
    let word = c.args.word.now in
    let past : (i count : ℕ) → length word < count → count ≤ suc i → get_or word i 0 ≡ 0 = λ i count short after. get_or_past word i 0 (omega (arith, short, after)) in
    let is : from_be_bytes w32 c.if-word-lt1.bytes ≡ leading 4 word = elim c.if-word-lt1.branch [
      | in-empty w ↦
          ap (from_be_bytes w32) w.bytes-is ∙ half_is word 0 0 0 0 (past 0 1 w.in-empty.len_below (omega arith)) (past 1 1 w.in-empty.len_below (omega arith)) (past 2 1 w.in-empty.len_below (omega arith)) (past 3 1 w.in-empty.len_below (omega arith))
      | in-len1 w ↦
          ap (from_be_bytes w32) w.bytes-is ∙ half_is word _ 0 0 0 refl (past 1 2 w.in-len1.len_below (omega arith)) (past 2 2 w.in-len1.len_below (omega arith)) (past 3 2 w.in-len1.len_below (omega arith))
      | in-len2 w ↦ ap (from_be_bytes w32) w.bytes-is ∙ half_is word _ _ 0 0 refl refl (past 2 3 w.in-len2.len_below (omega arith)) (past 3 3 w.in-len2.len_below (omega arith))
      | in-len3-up w ↦ ap (from_be_bytes w32) w.bytes-is ∙ half_is word _ _ _ 0 refl refl refl (past 3 4 c.requires (omega arith))
    ] in
    c.from.ensures ∙ c.from_be_bytes.ensures ∙ is
