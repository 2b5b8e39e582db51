use Rattle.std.proofs.Common.{ap}
use Rattle.std.specs.Map.{keys_of}
use Rattle.gopher_server.proofs.HeldLemmas.{deadline_ended, ended_once, moved}
use Rattle.gopher_server.proofs.decisions.held.Held.end.Goals as goal

pub returns-clause-sound : goal.returns-clause-sound
returns-clause-sound g c =
    let old = c.args.self.now in
    let es = old.connections.entries in
    let others = ap (λ all. all.entries) c.pop.ensures.entries in
    λ sound. (moved _ _ c.remove_key.ensures others (ended_once c.args.key old.searching.items es sound.0), moved _ _ c.remove_key-2.ensures others (ended_once c.args.key old.large.items es sound.1), moved _ _ (ap (λ all. keys_of all.entries) c.pop-deadline.ensures.entries) others (deadline_ended c.args.key old.deadlines.entries es sound.2))
