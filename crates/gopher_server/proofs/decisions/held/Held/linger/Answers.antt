use Rattle.std.proofs.Common.{refl, ap, rules}
use Rattle.std.specs.Map.{keys_of}
use Rattle.gopher_server.proofs.HeldLemmas.{deadline_set, moved}
use Rattle.gopher_server.proofs.decisions.held.Held.linger.Goals as goal

pub returns-in_ok-_before-clause-sound : goal.returns-in_ok-_before-clause-sound
returns-in_ok-_before-clause-sound g c =
    let old = c.args.self.now in
    λ sound. (sound.0, sound.1, moved _ _ (ap (λ all. keys_of all.entries) c.in_ok-_before.ensures.entries) refl (deadline_set c.args.key _ old.deadlines old.connections.entries (search rules) (search rules) sound.2))
