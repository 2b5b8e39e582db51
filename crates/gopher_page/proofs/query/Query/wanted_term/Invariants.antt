use Rattle.std.proofs.Common.{◌≡◌, drop, slice_get}
use Rattle.gopher_page.specs.Query.{wanted}
use Rattle.gopher_page.proofs.query.Query.wanted_term.Given as goal

abbrev pub invariant-loop-term : goal.invariant-loop-term
invariant-loop-term l = slice_get (wanted (drop l.term-index l.term-items)) l.left ≡ slice_get (wanted l.term-items) l.index
