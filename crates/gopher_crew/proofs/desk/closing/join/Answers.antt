use Rattle.std.proofs.Common.{◌≡◌, [], List, arith, rules, subst, sym}
use Rattle.std.proofs.lemmas.Grind.{common_steps}
use Rattle.std.proofs.lemmas.List.Elements.{All-nil, All-push}
use Rattle.gopher_crew.specs.Share.{ShareData, HasSeen}
use Rattle.gopher_crew.specs.Desk.{HasAllSeen}
use Rattle.gopher_crew.proofs.Joining.{seen_less}
use Rattle.gopher_crew.proofs.desk.closing.join.Goals as goal

pub loop-share-preserved : goal.loop-share-preserved
loop-share-preserved g c = record {
  total = search rules;
  events = grind (arith, common_steps);
  parts = grind (arith, common_steps);
  seen = λ record_ makers begins seen.
      c.loop-share.invariant.seen record_ makers
      (seen_less record_ makers c.loop-share.all c.merge.new.self c.merge.ensures.seen begins)
      (subst (λ (shares : List ShareData). HasAllSeen record_ makers shares) (sym c.in-Some.ensures.items)
      (All-push (HasSeen record_ makers) c.pop.new.self.items c.in-Some.share seen
      (seen_less record_ makers c.in-Some.share c.merge.new.self c.merge.ensures.other begins)));
  whole = search rules;
  room = search rules;
}

pub returns-clause-joined : goal.returns-clause-joined
returns-clause-joined g c =
    let none : c.loop-share.shares.items ≡ [] = search rules in
    record {
      events = grind (arith, common_steps, none, c.loop-share.invariant.events);
      parts = grind (arith, common_steps, none, c.loop-share.invariant.parts);
      seen = λ record_ makers begins.
          c.loop-share.invariant.seen record_ makers begins
          (subst (λ (shares : List ShareData). HasAllSeen record_ makers shares) (sym none) (All-nil (HasSeen record_ makers)));
    }
