use Rattle.std.proofs.Common.{◌≡◌, ◌∙◌, [], ◌∷◌, arith, ap}
use Rattle.std.specs.Arc.{arc_value}
use Rattle.gopher_catalogue.specs.Tables.{after_mention, drops, is_dropped}
use Rattle.gopher_catalogue.proofs.KnownLemmas.{Extends-trans, after_mentions-next, drop-next, drops-next, few-dropped}
use Rattle.gopher_catalogue.proofs.frontier.known.KnownPlaces.mention_seeds.Goals as goal

pub loop-seed-preserved : goal.loop-seed-preserved
loop-seed-preserved c =
    let same : arc_value c.in_ok-place.place ≡ c.seed-item.result = c.in_ok-place.ensures.ok ∙ c.in_ok-clone.ensures in
    let e = c.in_ok-mention.ensures.ok.places ∙ ap (after_mention c.args.limit c.loop-seed.self.places) same in
    let d = c.in_ok-mention.ensures.ok.dropped_is ∙ ap (λ p. drops c.args.limit c.loop-seed.self.places (p ∷ [])) same in
    let seeds = c.args.seeds.now in
    let next = drop-next seeds c.loop-seed.seed-index c.seed-item.result (omega arith) c.seed-item.is in
    record {
      places = after_mentions-next c.args.limit _ _ _ next _ _ e _ c.loop-seed.invariant.places;
      dropped = drops-next c.args.limit _ _ _ next _ _ e _ _ _ (c.from.ensures ∙ d) c.loop-seed.invariant.dropped;
      few = omega (arith, c.from.ensures, few-dropped (is_dropped c.args.limit c.loop-seed.self.places c.seed-item.result) c.in_ok-mention.field-0 d, c.loop-seed.invariant.few);
      grows = Extends-trans _ _ _ c.loop-seed.invariant.grows c.in_ok-mention.ensures.grows;
    }
