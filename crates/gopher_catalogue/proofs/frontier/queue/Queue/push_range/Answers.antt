use Rattle.std.proofs.Common.{◌-◌, [], ◌∷◌, ◌++◌, ◌∙◌, ap, arith}
use Rattle.std.specs.List.{range_with_len}
use Rattle.std.proofs.lemmas.List.{append_assoc}
use Rattle.gopher_catalogue.proofs.KnownLemmas.{range-next}
use Rattle.gopher_catalogue.proofs.frontier.queue.Queue.push_range.Goals as goal

pub loop-number-preserved : goal.loop-number-preserved
loop-number-preserved c =
    record {
      waiting =
          c.push.ensures.waiting ∙ ap (λ l. l ++ c.loop-number.number ∷ []) c.loop-number.invariant.waiting ∙ append_assoc c.args.self.now.waiting (range_with_len c.args.first (c.loop-number.number - c.args.first)) (c.loop-number.number ∷ [])
          ∙ ap (λ l. c.args.self.now.waiting ++ l) (range-next c.args.first c.loop-number.number (omega arith));
      room = omega (arith, c.push.ensures.room, c.loop-number.invariant.room);
    }
