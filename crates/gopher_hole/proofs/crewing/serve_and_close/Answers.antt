use Rattle.std.proofs.Common.{sym, subst}
use Rattle.gopher_crew.specs.Desk.{HasAll}
use Rattle.gopher_hole.proofs.crewing.serve_and_close.Goals as goal

pub close-requires : goal.close-requires
close-requires g c =
    c.in_ok-ends.ensures.parts g.C.Ledger.parts
    (subst (HasAll g.C.Ledger.parts) (sym c.in_ok-pairs.ensures.shares) c.requires)
