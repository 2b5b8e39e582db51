use Rattle.gopher_page.proofs.Leading.{ordered_by_number}
use Rattle.gopher_page.proofs.numbered.NumberedOrd.cmp.Goals as goal

pub returns-in_default : goal.returns-in_default
returns-in_default c =
    rw (← c.self.view_is, ← c.other.view_is)
    (ordered_by_number c.cmp.result _ _ 8 _ _ c.self.invariant.bytes c.other.invariant.bytes c.self.invariant.number_is c.other.invariant.number_is c.cmp.ensures c.in_default.not-Equal)
