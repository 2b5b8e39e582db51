use Rattle.std.proofs.Common.{◌≡◌, ◌∙◌, [], ◌∷◌, ◌<◌, length, get_or, arith, ap, sym}
use Rattle.std.proofs.lemmas.Option.{get_or_from_slice_get}
use Rattle.std.specs.Arc.{arc_value}
use Rattle.gopher_catalogue.specs.Tables.{after_mention, drops, is_dropped}
use Rattle.gopher_catalogue.proofs.KnownLemmas.{Extends-trans, after_mentions-next, allowed-next, allowed-skip, drop-next, drops-next, few-dropped}
use Rattle.gopher_catalogue.proofs.frontier.known.KnownPlaces.mention_links.Goals as goal
use Rattle.gopher_catalogue.proofs.frontier.known.KnownPlaces.mention_links.Goals.{then-allows+in_ok-link-2+in_ok-dropped, else-allows}

pub loop-index-preserved : goal.loop-index-preserved
loop-index-preserved c =
    let links = c.args.links.now in
    let places = c.loop-index.self.places in
    let link = c.in_ok-link.link in
    let is : link ≡ get_or links c.loop-index.index link =
    c.in_ok-link.ensures ∙ sym (get_or_from_slice_get links c.loop-index.index c.get.result link c.get.ensures) in
    let within : c.loop-index.index < length links = omega (arith, c.loop-index-test.true, c.len-index-end.ensures) in
    let next = drop-next links c.loop-index.index link within is in
    let before = c.loop-index.invariant in
    elim c.if-allows.branch [
      | then-allows+in_ok-link-2+in_ok-dropped w ↦
          let rest = allowed-next c.args.scope.now _ _ link next (sym c.allows.ensures ∙ w.if-allows.true) in
          let same : arc_value w.in_ok-link-2.link ≡ link = w.in_ok-link-2.ensures.ok in
          let e = w.in_ok-dropped.ensures.ok.places ∙ ap (after_mention c.args.limit places) same in
          let d = w.in_ok-dropped.ensures.ok.dropped_is ∙ ap (λ p. drops c.args.limit places (p ∷ [])) same in
          record {
            places = rw w.self-is (after_mentions-next c.args.limit _ _ link rest _ _ e _ before.places);
            dropped = rw (w.self-is, w.dropped-is) (drops-next c.args.limit _ _ link rest _ _ e _ _ _ d before.dropped);
            few = omega (arith, w.dropped-is, few-dropped (is_dropped c.args.limit places link) w.in_ok-dropped.field-0 d, before.few);
            grows = rw w.self-is (Extends-trans _ _ _ before.grows w.in_ok-dropped.ensures.grows);
          }
      | else-allows w ↦
          let rest = allowed-skip c.args.scope.now _ _ link next (sym c.allows.ensures ∙ w.if-allows.false) in
          record {
            places = rw (w.self-is, ← rest) before.places;
            dropped = rw (w.self-is, w.dropped-is, ← rest) before.dropped;
            few = omega (arith, w.dropped-is, before.few);
            grows = rw w.self-is before.grows;
          }
    ]
