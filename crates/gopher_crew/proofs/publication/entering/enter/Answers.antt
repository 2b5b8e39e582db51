use Rattle.std.proofs.Common.{◌∙◌}
use Rattle.gopher_crew.proofs.Making.{made_on}
use Rattle.gopher_crew.proofs.Prefixes.{prefix_trans}
use Rattle.gopher_crew.proofs.publication.entering.enter.Goals as goal

pub loop-round-preserved : goal.loop-round-preserved
loop-round-preserved g c =
    let first = c.args.prefix.now in
    let old = c.loop-round.prefix in
    let new = c.enter_rest.new.prefix in
    let before = c.loop-round.invariant in
    let now = c.enter_rest.ensures in
    record {
      history = now.history ∙ before.history;
      begun = now.begun;
      grows = prefix_trans first.events old.events new.events before.grows now.grows;
      made = made_on c.args.maker first old new before.made now.made before.grows now.grows;
    }
