use Rattle.std.proofs.Common.{List, ℕ, arith, subst, sym, ◌∙◌}
use Rattle.std.proofs.lemmas.Grind.{common_steps}
use Rattle.gopher_catalogue.specs.declared.event.EventData.{EventData}
use Rattle.gopher_crew.specs.Publication.{PublicationData}
use Rattle.gopher_crew.specs.Share.{ShareData, HasSeen}
use Rattle.gopher_crew.specs.Desk.{HasAllSeen}
use Rattle.gopher_crew.proofs.Joining.{joined_have_seen, last_has_seen, rises_sees, seen_less}
use Rattle.gopher_crew.proofs.Keeping.{few_events}
use Rattle.gopher_crew.proofs.desk.kept.Kept.gather.Goals as goal

pub join-requires : goal.join-requires
join-requires g c = few_events _ _ _ _ c.self.invariant

pub returns-clause-joined : goal.returns-clause-joined
returns-clause-joined g c = record {
  events = grind (arith, common_steps, c.join.ensures.joined.events);
  parts = grind (arith, common_steps, c.join.ensures.joined.parts);
  seen = λ record_ makers seen.
      let last : HasSeen record_ makers c.show.new.share =
      last_has_seen record_ makers c.join.new.shares.items c.show.new.share (subst (λ (shares : List ShareData). HasAllSeen record_ makers shares) c.push_reserved.ensures.items seen) in
      let begins : HasSeen record_ makers c.join.new.all = seen_less record_ makers c.join.new.all c.show.new.share (rises_sees 0 c.join.new.all c.show.new.share c.show.ensures.share) last in
      subst (λ (shares : List ShareData). HasAllSeen record_ makers shares) (sym {A = List ShareData} c.in-Some.ensures.items)
      (joined_have_seen record_ makers c.pop.new.self.items c.in-Some.all c.join.new.all c.join.ensures.joined begins);
}

pub returns-clause-seen : goal.returns-clause-seen
returns-clause-seen g c =
    let share = c.show.new.share in
    let seen : HasAllSeen share.seen share.makers c.args.shares.now.items =
    subst (λ (shares : List ShareData). HasAllSeen share.seen share.makers shares) (sym c.in-Some.ensures.items)
    (joined_have_seen share.seen share.makers c.pop.new.self.items c.in-Some.all c.join.new.all c.join.ensures.joined (rises_sees 0 c.join.new.all share c.show.ensures.share)) in
    subst (λ (kept : PublicationData). HasAllSeen kept.events kept.makers c.args.shares.now.items) c.self.view_is
    (subst (λ (events : List EventData). HasAllSeen events c.self.inside.publication.makers c.args.shares.now.items) (c.show.ensures.seen ∙ c.self.invariant.entered)
    (subst (λ (makers : List ℕ). HasAllSeen share.seen makers c.args.shares.now.items) c.show.ensures.makers seen))
