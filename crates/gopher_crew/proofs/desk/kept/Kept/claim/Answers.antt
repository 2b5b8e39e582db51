use Rattle.std.proofs.Common.{◌+◌, ◌∙◌, ap}
use Rattle.gopher_catalogue.specs.Step.{TurnData}
use Rattle.gopher_crew.specs.Kept.{rise_of}
use Rattle.gopher_crew.proofs.Keeping.{few_events, keeps_turn}
use Rattle.gopher_crew.proofs.desk.kept.Kept.claim.Goals as goal

pub count-requires : goal.count-requires
count-requires g c = few_events _ _ _ _ c.self.invariant

pub invariant_of-self-2 : goal.invariant_of-self-2
invariant_of-self-2 g c =
    keeps_turn g.A.Admits.admits c.self.inside.catalogue c.claim.new.self _ c.self.inside.publication c.follow-note.new.self _ c.self.inside.book.total c.count.new.book.total
    c.self.invariant c.in_ok-turn.ensures.after c.in_ok-turn.ensures.legal c.follow-note.ensures.entered c.follow-note.ensures.made c.follow-note.ensures.shown
    (c.count.ensures.total ∙ ap (λ (turn : TurnData). c.self.inside.book.total + rise_of turn) c.in_ok-turn.ensures.turn)
