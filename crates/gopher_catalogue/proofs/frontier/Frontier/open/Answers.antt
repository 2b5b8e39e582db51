use Rattle.std.proofs.Common.{◌≡◌, ◌-◌, ◌≤◌, ◌++◌, length, replicate, arith, refl, ap, sym, ◌∙◌}
use Rattle.std.specs.List.{range_with_len}
use Rattle.gopher_catalogue.specs.Tables.{after_mentions, drops, unclaimed}
use Rattle.gopher_catalogue.proofs.KnownLemmas.{length-after_mentions}
use Rattle.gopher_catalogue.proofs.Consistent.{begun}
use Rattle.gopher_catalogue.proofs.frontier.Frontier.open.Goals as goal

pub overflow_cast-len : goal.overflow_cast-len
overflow_cast-len c =
    let none : length c.new-known.result.places ≤ c.args.limit = omega (arith, ap length c.new-known.ensures.places) in
    let few = length-after_mentions c.args.limit c.new-known.result.places c.args.seeds.now none in
    omega (arith, few, ap length c.in_ok-dropped.ensures.ok.places, c.len-2.ensures.places, c.requires.limits.few_places)

pub invariant_of-result : goal.invariant_of-result
invariant_of-result c =
    let grows = c.in_ok-dropped.ensures.grows in
    let size : length c.mention_seeds.new.self.places ≡ length grows.more = ap length (grows.places ∙ ap (λ l. l ++ grows.more) c.new-known.ensures.places) in
    let count : c.len-2.result - 0 ≡ length c.mention_seeds.new.self.places = omega (arith, c.len-2.ensures.places) in
    begun c.args.limit c.args.tries c.args.seeds.now _ _ c.requires.limits c.requires.few_seeds (record {
      limit_is = refl;
      tries_is = refl;
      places = c.in_ok-dropped.ensures.ok.places ∙ ap (λ ps. after_mentions c.args.limit ps c.args.seeds.now) c.new-known.ensures.places;
      standings = grows.standings ∙ ap (λ l. l ++ replicate (length grows.more) unclaimed) c.new-known.ensures.standings ∙ ap (λ k. replicate k unclaimed) (sym size);
      fresh = refl;
      waiting = c.push_range.ensures.range ∙ ap (λ l. l ++ range_with_len 0 (c.len-2.result - 0)) (c.in_ok-reserve.ensures.waiting ∙ c.new-queue.ensures) ∙ ap (range_with_len 0) count;
      out = refl;
      done = refl;
      dropped = c.in_ok-dropped.ensures.ok.dropped_is ∙ ap (λ ps. drops c.args.limit ps c.args.seeds.now) c.new-known.ensures.places;
      few_dropped = c.in_ok-dropped.ensures.few;
    })
