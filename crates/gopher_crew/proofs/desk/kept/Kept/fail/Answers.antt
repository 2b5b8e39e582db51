use Rattle.std.proofs.Common.{List, subst, ◌∙◌}
use mathlib.Core.List.{IsPrefix}
use Rattle.gopher_catalogue.specs.declared.event.EventData.{EventData}
use Rattle.gopher_catalogue.specs.declared.event.EventData.TheVariants.{Failed}
use Rattle.gopher_crew.proofs.Keeping.{few_events, keeps_added}
use Rattle.gopher_crew.proofs.desk.kept.Kept.fail.Goals as goal

pub add-requires : goal.add-requires
add-requires g c = few_events _ _ _ _ c.self.invariant

pub invariant_of-self-2 : goal.invariant_of-self-2
invariant_of-self-2 g c =
    let seen = c.args.share.now.seen in
    let begins = subst (λ (record_ : List EventData). IsPrefix seen record_) (c.show.ensures.seen ∙ c.self.invariant.entered) c.show.ensures.share.seen in
    keeps_added g.A.Admits.admits seen c.self.inside.catalogue _ (Failed c.args.number c.args.why) c.self.inside.publication _ _ c.self.inside.book.total _ c.self.invariant c.requires begins
    c.in_ok-fail.ensures.after c.in_ok-fail.ensures.legal c.follow.ensures.entered c.follow.ensures.made c.follow.ensures.shown c.add.ensures.total
