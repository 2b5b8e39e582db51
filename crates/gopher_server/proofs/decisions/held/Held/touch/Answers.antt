use Rattle.std.proofs.Common.{refl, ap}
use Rattle.std.specs.Map.{keys_of}
use Rattle.gopher_server.proofs.HeldLemmas.{moved, promoted_once}
use Rattle.gopher_server.proofs.decisions.held.Held.touch.Goals as goal

pub returns-clause-sound : goal.returns-clause-sound
returns-clause-sound g c =
    let old = c.args.self.now in
    let es = old.connections.entries in
    let first = ap (λ all. all.entries) c.promote-found.ensures.entries in
    λ sound. (moved _ _ refl first (promoted_once c.args.key old.searching.items es sound.0), moved _ _ refl first (promoted_once c.args.key old.large.items es sound.1), moved _ _ refl first (promoted_once c.args.key (keys_of old.deadlines.entries) es sound.2))
