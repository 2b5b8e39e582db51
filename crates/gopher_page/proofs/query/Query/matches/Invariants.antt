use Rattle.std.proofs.Common.{◌≡◌, true, take}
use Rattle.std.specs.Prelude.{nat_lt}
use Rattle.std.specs.List.{fold}
use Rattle.gopher_page.specs.Query.{joined, count_of_term}
use Rattle.gopher_page.proofs.query.Query.matches.Given as goal

abbrev pub invariant-loop-term : goal.invariant-loop-term
invariant-loop-term l =
    l.truth ≡ fold (λ truth term. joined term.operator truth (nat_lt 0 (count_of_term l.page.counts term))) true (take l.term-index l.term-items)
