use Rattle.std.proofs.Common.{◌≡◌, ◌+◌, ◌<◌, ◌∙◌, ◌++◌, ◌∷◌, [], length, get_or, sym, ap, arith, take}
use Rattle.std.proofs.lemmas.List.{take_more}
use Rattle.std.proofs.lemmas.Option.{get_or_from_slice_get}
use Rattle.gopher_check.proofs.Sets.{adds_next, adds_one}
use Rattle.gopher_check.proofs.reach.add_packed.Goals as goal

pub loop-index-preserved : goal.loop-index-preserved
loop-index-preserved c =
    let links = c.args.places.now in
    let i = c.loop-index.index in
    let link = c.in_ok-to_place.field-0 in
    let is : get_or links i link ≡ link = get_or_from_slice_get links i c.get.result link c.get.ensures ∙ sym c.in_ok-to_place.ensures in
    let within : i < length links = omega (arith, c.loop-index-test.true, c.len-index-end.ensures) in
    let next : take (i + 1) links ≡ take i links ++ link ∷ [] = take_more links i link within ∙ ap (λ one. take i links ++ one ∷ []) is in
    adds_next (take i links) (link ∷ []) (take (i + 1) links) c.args.set.now c.loop-index.set c.insert.new.self next c.loop-index.invariant
    (adds_one c.loop-index.set c.insert.new.self link c.in_ok-insert.ensures.updates)
