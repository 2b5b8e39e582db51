use Rattle.std.proofs.Common.{◌+◌, ◌-◌, ◌≤◌, filter, length, arith, refl, ap, ◌∙◌}
use Rattle.std.proofs.lemmas.Grind.{common_steps}
use Rattle.std.proofs.lemmas.List.{length-append}
use Rattle.gopher_item.specs.Scope.{allows}
use Rattle.gopher_catalogue.specs.FrontierTables.{frontier_with}
use Rattle.gopher_catalogue.proofs.KnownLemmas.{length-after_mentions}
use Rattle.gopher_catalogue.proofs.Consistent.{roomier, cut_back, learned}
use Rattle.gopher_catalogue.proofs.frontier.Frontier.learn.Goals as goal

pub invariant_of-self : goal.invariant_of-self
invariant_of-self c =
    let known = cut_back c.self.inside.known c.mention_links-mentioned.new.self c.truncate.new.self c.len-before.result c.mention_links-mentioned.ensures.grows c.len-before.ensures.places c.len-before.ensures.standings c.truncate.ensures.places c.truncate.ensures.standings in
    roomier _ _ c.self.invariant _ _ (ap (λ k. frontier_with c.self.inside.limit c.self.inside.tries k c.self.inside.fresh c.self.inside.queue.waiting c.self.inside.out c.self.inside.done c.self.inside.dropped) known) (omega arith)

pub invariant_of-self-then-is_err : goal.invariant_of-self-then-is_err
invariant_of-self-then-is_err c =
    let known = cut_back c.self.inside.known c.mention_links-mentioned.new.self c.truncate-then-is_err.new.self c.len-before.result c.mention_links-mentioned.ensures.grows c.len-before.ensures.places c.len-before.ensures.standings c.truncate-then-is_err.ensures.places c.truncate-then-is_err.ensures.standings in
    roomier _ _ c.self.invariant _ _ (λ i. frontier_with c.self.inside.limit c.self.inside.tries (known i) c.self.inside.fresh (c.reserve.ensures.waiting i) c.self.inside.out c.self.inside.done c.self.inside.dropped) c.reserve.ensures.room

pub overflow_cast-self : goal.overflow_cast-self
overflow_cast-self c =
    let links = filter (allows c.args.scope.now) c.unwrap_or-links.result.now in
    let few = length-after_mentions c.self.inside.limit c.self.inside.known.places links c.self.invariant.few_places in
    omega (arith, few, ap length c.in-Ok.ensures.ok.places, c.len.ensures.places, c.len-before.ensures.places, c.self.invariant.limits.few_places, c.self.invariant.sizes)

pub overflow_cast-result : goal.overflow_cast-result
overflow_cast-result c =
    let links = filter (allows c.args.scope.now) c.unwrap_or-links.result.now in
    let few = length-after_mentions c.self.inside.limit c.self.inside.known.places links c.self.invariant.few_places in
    omega (arith, few, ap length c.in-Ok.ensures.ok.places, c.len.ensures.places, c.self.invariant.limits.few_places)

pub invariant_of-self-2 : goal.invariant_of-self-2
invariant_of-self-2 c =
    let grows = c.mention_links-mentioned.ensures.grows in
    let longer = ap length grows.places ∙ length-append c.self.inside.known.places grows.more in
    let enough : c.self.inside.fresh + (c.len.result - c.len-before.result) + c.self.inside.out ≤ c.reserve.new.self.room = grind (arith, common_steps) in
    learned _ _ c.self.invariant _ _ _ (record {
      mentions_are = c.in-Ok.ensures.ok;
      grows = grows;
      keeps = record { limit = refl; tries = refl; waiting = c.reserve.ensures.waiting; out = refl; done = refl; dropped = refl };
      fresh = omega (arith, longer, c.len.ensures.places, c.len-before.ensures.places);
    }) c.reserve.new.self.room enough
