use Rattle.std.proofs.Common.{◌≡◌, ◌∙◌, ◌+◌, ◌<◌, true, false, not, length, get_or, sym, ap, arith}
use Rattle.std.proofs.lemmas.Option.{get_or_from_slice_get}
use Rattle.std.proofs.lemmas.List.Sums.{count_by_more_yes, count_by_more_no}
use Rattle.gopher_hole.specs.Dropped.{is_unknown}
use Rattle.gopher_hole.proofs.progress.dropped.unknown_links.Goals as goal
use Rattle.gopher_hole.proofs.progress.dropped.unknown_links.Goals.{then-not-contains, else-not-contains}

pub loop-index-preserved : goal.loop-index-preserved
loop-index-preserved c =
    let links = c.args.links.now in
    let known = c.args.known.now.keys in
    let link = c.in_ok-to_place.field-0 in
    let is : get_or links c.loop-index.index link ≡ link =
    get_or_from_slice_get links c.loop-index.index c.get.result link c.get.ensures ∙ sym c.in_ok-to_place.ensures in
    let within : c.loop-index.index < length links = omega (arith, c.loop-index-test.true, c.len-index-end.ensures) in
    elim c.if-not-contains.branch [
      | then-not-contains w ↦
          let test : is_unknown known (get_or links c.loop-index.index link) ≡ true = rw is (ap not (sym c.contains-in-loop-index.ensures ∙ w.if-not-contains.true)) in
          rw w.unknown-is (ap (λ n. n + 1) c.loop-index.invariant ∙ sym (count_by_more_yes (is_unknown known) links c.loop-index.index link within test))
      | else-not-contains w ↦
          let test : is_unknown known (get_or links c.loop-index.index link) ≡ false = rw is (ap not (sym c.contains-in-loop-index.ensures ∙ w.if-not-contains.false)) in
          rw w.unknown-is (c.loop-index.invariant ∙ sym (count_by_more_no (is_unknown known) links c.loop-index.index link within test))
    ]
