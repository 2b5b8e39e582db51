use Rattle.std.proofs.Common.{refl}
use Rattle.gopher_server.proofs.HeldLemmas.{less_once, moved}
use Rattle.gopher_server.proofs.decisions.held.Held.end_turn.Goals as goal

pub returns-then-not-goes_on-clause-sound : goal.returns-then-not-goes_on-clause-sound
returns-then-not-goes_on-clause-sound g c =
    let next = c.touch.new.self in
    λ sound. let kept = c.touch.ensures.sound sound in (moved _ _ c.remove_key.ensures refl (less_once c.args.key next.searching.items next.connections.entries kept.0), kept.1, kept.2)
