use Rattle.std.proofs.Common.{arith, subst, sym, ◌∙◌}
use mathlib.Core.List.{IsPrefix}
use Rattle.gopher_catalogue.specs.EventOf.{event_data}
use Rattle.gopher_crew.proofs.Making.{made_on, made_one}
use Rattle.gopher_crew.proofs.Prefixes.{prefix_push, prefix_trans}
use Rattle.gopher_crew.proofs.Records.{record_room, one_more_entered, one_longer}
use Rattle.gopher_crew.proofs.publication.entering.enter_rest.Goals as goal

pub add-requires-clause-room : goal.add-requires-clause-room
add-requires-clause-room c =
    omega (arith, record_room c.record-events.result.now c.args.catalogue.now c.record-events.ensures.events c.record-events.ensures.legal, c.loop-index-test.true, c.loop-index.invariant.at)

pub loop-index-preserved : goal.loop-index-preserved
loop-index-preserved c =
    let event = event_data c.index-events-index.result in
    let adds = (rw c.if-not-add.false at c.add.ensures.events) in
    let more = subst (λ l. IsPrefix c.loop-index.prefix.events l) (sym adds.0) (prefix_push c.loop-index.prefix.events event) in
    record {
      history = c.add.ensures.history ∙ c.loop-index.invariant.history;
      begun =
          one_more_entered c.add.result c.loop-index.prefix c.add.new.self c.record-events.result.now c.args.catalogue.now c.loop-index.index c.index-events-index.result c.args.maker
          c.record-events.ensures.events c.loop-index.invariant.begun c.loop-index.invariant.at c.loop-index-test.true c.index-events-index.is c.add.ensures.events;
      grows = prefix_trans c.args.prefix.now.events c.loop-index.prefix.events c.add.new.self.events c.loop-index.invariant.grows more;
      made = made_on c.args.maker c.args.prefix.now c.loop-index.prefix c.add.new.self c.loop-index.invariant.made (made_one c.args.maker c.loop-index.prefix c.add.new.self event adds.0 adds.1) c.loop-index.invariant.grows more;
      at = omega (arith, c.loop-index.invariant.at, one_longer c.loop-index.prefix c.add.new.self event adds.0);
    }
