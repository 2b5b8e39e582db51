use Rattle.std.proofs.Common.{◌≡◌}
use Rattle.gopher_serve.proofs.answer.menu_of.Given as goal

abbrev pub invariant-loop-search : goal.invariant-loop-search
invariant-loop-search l = l.search.hits ≡ l.fn.search.hits

abbrev pub decreases-loop-search : goal.decreases-loop-search
decreases-loop-search l = l.search.left
