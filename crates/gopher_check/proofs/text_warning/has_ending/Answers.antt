use Rattle.std.proofs.Common.{◌≡◌, ◌-◌, length, take, drop, map, eqb, arith, ap, ◌∙◌}
use Rattle.std.specs.Char.{to_ascii_lowercase}
use Rattle.std.specs.Cmp.Lexicographic.{pointwise}
use Rattle.std.proofs.lemmas.List.{take_all, length-drop}
use Rattle.gopher_tree.proofs.Bytes.{test_is_pointwise}
use Rattle.gopher_check.proofs.text_warning.has_ending.Goals as goal

pub returns : goal.returns
returns c =
    let name = c.args.name.now in
    let ending = c.args.ending.now in
    let start = c.saturating_sub-start.result in
    let cut : take (length name - start) (drop start name) ≡ drop (length name - length ending) name =
    take_all _ _ (omega (arith, length-drop start name)) ∙ ap (λ k. drop k name) c.saturating_sub-start.ensures in
    test_is_pointwise _ _ _ c.eq_ignore_ascii_case.ensures.test ∙ ap (λ l. pointwise eqb (map to_ascii_lowercase l) (map to_ascii_lowercase ending)) cut
