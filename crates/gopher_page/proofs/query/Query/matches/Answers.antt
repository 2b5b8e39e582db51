use Rattle.std.proofs.Common.{◌∙◌, ap, sym, subst}
use Rattle.gopher_page.specs.Query.{BeginsWithAnd, matches}
use Rattle.gopher_page.proofs.Terms.{matches_all, matches_wanted}
use Rattle.gopher_page.proofs.query.Query.matches.Goals as goal

pub returns-clause-value : goal.returns-clause-value
returns-clause-value c =
    c.loop-term.invariant ∙ matches_all c.deref-term-items.result.now c.args.page.now.counts c.loop-term.term-index c.loop-term-test.false
    ∙ ap (λ terms. matches terms c.args.page.now.counts) (c.deref-term-items.ensures.value ∙ c.self.view_is)

pub returns-clause-wanted : goal.returns-clause-wanted
returns-clause-wanted c =
    λ true.
    matches_wanted c.args.self.now c.args.page.now.counts (subst BeginsWithAnd c.self.view_is c.self.invariant.first) (sym (returns-clause-value c) ∙ true)
