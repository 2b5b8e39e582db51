use Rattle.std.proofs.Common.{nat_eq}
use Rattle.std.specs.Cmp.{nat_eq_equiv}
use Rattle.lru.proofs.CallerLemmas.{lookup-put_entries}
use Rattle.gopher_server.proofs.decisions.held.Held.take_in.Goals as goal

pub returns-in-Ok-clause-named : goal.returns-in-Ok-clause-named
returns-in-Ok-clause-named g c =
    rw (c.in-Ok.ensures.entries) (lookup-put_entries nat_eq c.args.self.now.connections c.args.self.now.next_key c.args.taken nat_eq_equiv)
