use Rattle.std.proofs.Common.{◌∙◌, arith}
use Rattle.std.proofs.lemmas.Grind.{common_steps}
use Rattle.gopher_crew.proofs.Prefixes.{prefix_trans}
use Rattle.gopher_crew.proofs.desk.Desk.next.Goals as goal

pub loop-round-preserved-in-Idle : goal.loop-round-preserved-in-Idle
loop-round-preserved-in-Idle g c = record {
  number = c.in_ok-turn.ensures.share.number ∙ c.loop-round.invariant.number;
  events = grind (arith, common_steps);
  parts = c.in_ok-turn.ensures.share.parts ∙ c.loop-round.invariant.parts;
  seen = prefix_trans _ _ _ c.loop-round.invariant.seen c.in_ok-turn.ensures.share.seen;
  makers = prefix_trans _ _ _ c.loop-round.invariant.makers c.in_ok-turn.ensures.share.makers;
}

pub loop-round-preserved : goal.loop-round-preserved
loop-round-preserved g c = record {
  number = c.in_ok-turn.ensures.share.number ∙ c.loop-round.invariant.number;
  events = grind (arith, common_steps);
  parts = c.in_ok-turn.ensures.share.parts ∙ c.loop-round.invariant.parts;
  seen = prefix_trans _ _ _ c.loop-round.invariant.seen c.in_ok-turn.ensures.share.seen;
  makers = prefix_trans _ _ _ c.loop-round.invariant.makers c.in_ok-turn.ensures.share.makers;
}

pub returns-in_default : goal.returns-in_default
returns-in_default g c = record {
  turn = record { before = _; begins = prefix_trans _ _ _ c.loop-round.invariant.seen c.in_ok-turn.ensures.call.begins; holds = c.in_ok-turn.ensures.turn };
  not_idle = grind (arith, common_steps);
  share = record {
    number = c.in_ok-turn.ensures.share.number ∙ c.loop-round.invariant.number;
    events = grind (arith, common_steps);
    parts = c.in_ok-turn.ensures.share.parts ∙ c.loop-round.invariant.parts;
    seen = prefix_trans _ _ _ c.loop-round.invariant.seen c.in_ok-turn.ensures.share.seen;
    makers = prefix_trans _ _ _ c.loop-round.invariant.makers c.in_ok-turn.ensures.share.makers;
  };
  waits = grind (arith, common_steps);
}
