use Rattle.std.proofs.Common.{◌<◌, length, ap, arith}
use Rattle.std.specs.Arc.{arc_value}
use Rattle.gopher_index.proofs.SettlingLemmas.{pushed_index}
use Rattle.gopher_index.proofs.index.Index.add.Goals as goal
use Rattle.gopher_index.proofs.index.Index.add.Goals.{then-len-ge-MOST_LOOSE+then-loose_len-ge-MOST_LOOSE, else-len-ge-MOST_LOOSE}

pub invariant_of-self-2 : goal.invariant_of-self-2
invariant_of-self-2 c =
    let room : length c.if-len-ge-MOST_LOOSE.self < 65536 =
    elim c.if-len-ge-MOST_LOOSE.branch [ then-len-ge-MOST_LOOSE+then-loose_len-ge-MOST_LOOSE w ↦ grind (arith, w.self-is, w.settle.ensures, c.requires) | else-len-ge-MOST_LOOSE w ↦ grind (arith, w.self-is, c.requires) ] in
    let few : c.self-2.inside.count < 65536 = omega (arith, room, c.self-2.invariant.count_is, ap length c.self-2.view_is) in
    (pushed_index c.self-2.inside.parts.items _ c.page.result (arc_value c.args.page) c.self-2.inside.count c.in_ok-push.ensures.items c.page.ensures.first c.page.ensures.pages few c.self-2.invariant).0
