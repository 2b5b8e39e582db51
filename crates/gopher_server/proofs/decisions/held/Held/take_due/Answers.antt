use Rattle.std.proofs.Common.{refl, ap}
use Rattle.std.specs.Map.{keys_of}
use Rattle.gopher_server.proofs.HeldLemmas.{deadline_taken, moved}
use Rattle.gopher_server.proofs.decisions.held.Held.take_due.Goals as goal

pub returns-clause-sound : goal.returns-clause-sound
returns-clause-sound g c =
    let old = c.args.self.now in
    λ sound. (sound.0, sound.1, moved _ _ (ap (λ all. keys_of all.entries) c.pop_lru.ensures.entries) refl (deadline_taken old.deadlines.entries old.connections.entries sound.2))
