use Rattle.gopher_server.proofs.HeldLemmas.{grown_once}
use Rattle.gopher_server.proofs.decisions.held.Held.mark_large.Goals as goal

pub returns-clause-sound : goal.returns-clause-sound
returns-clause-sound g c =
    let old = c.args.self.now in
    λ sound. (sound.0, grown_once c.add_key.result c.args.key old.large.items c.add_key.new.keys.items old.connections.entries c.add_key.ensures.added c.add_key.ensures.refused sound.1, sound.2)
