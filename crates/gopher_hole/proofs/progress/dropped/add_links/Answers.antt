use Rattle.std.proofs.Common.{◌≡◌, ◌∙◌, ◌<◌, length, get_or, sym, arith}
use Rattle.std.proofs.lemmas.Option.{get_or_from_slice_get}
use Rattle.gopher_catalogue.proofs.KnownLemmas.{after_mentions-next, drop-next}
use Rattle.gopher_hole.proofs.progress.dropped.add_links.Goals as goal

pub loop-index-preserved : goal.loop-index-preserved
loop-index-preserved c =
    let links = c.args.links.now in
    let link = c.in_ok-to_place.field-0 in
    let is : link ≡ get_or links c.loop-index.index link =
    c.in_ok-to_place.ensures ∙ sym (get_or_from_slice_get links c.loop-index.index c.get.result link c.get.ensures) in
    let within : c.loop-index.index < length links = omega (arith, c.loop-index-test.true, c.len-index-end.ensures) in
    let next = drop-next links c.loop-index.index link within is in
    after_mentions-next c.args.limit _ _ link next _ _ c.in_ok-add_mention.ensures _ c.loop-index.invariant
