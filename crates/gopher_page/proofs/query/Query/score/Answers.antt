use Rattle.std.proofs.Common.{◌∙◌, ap, sym, arith}
use Rattle.std.proofs.lemmas.Bool.{cond-false, cond-true, not-false, not-true}
use Rattle.std.proofs.lemmas.List.{take_all}
use Rattle.gopher_page.specs.Query.{count_of_term, is_not, score}
use Rattle.gopher_page.proofs.OneMoreTerm.{score_next, score_of_none}
use Rattle.gopher_page.proofs.query.Query.score.Goals as goal

pub loop-term-init : goal.loop-term-init
loop-term-init c = record { sum = sym (score_of_none c.args.page.now.counts); few = omega arith }

pub loop-term-preserved-then-not-is_wanted : goal.loop-term-preserved-then-not-is_wanted
loop-term-preserved-then-not-is_wanted c =
    let term = c.term-item.result in
    let passed = cond-true (is_not term.operator) 0 (count_of_term c.args.page.now.counts term) (not-false (is_not term.operator) (sym c.is_wanted.ensures ∙ c.if-not-is_wanted.true)) in
    record {
      sum = omega (arith, passed, c.loop-term.invariant.sum, score_next c.args.page.now.counts c.deref-term-items.result.now c.loop-term.term-index term c.loop-term-test.true c.term-item.is);
      few = omega (arith, c.loop-term.invariant.few);
    }

pub loop-term-preserved : goal.loop-term-preserved
loop-term-preserved c =
    let term = c.term-item.result in
    let kept = cond-false (is_not term.operator) 0 (count_of_term c.args.page.now.counts term) (not-true (is_not term.operator) (sym c.is_wanted.ensures ∙ c.if-not-is_wanted.false)) in
    record {
      sum = omega (arith, kept, c.from-total.ensures, c.count_in.ensures, c.loop-term.invariant.sum, score_next c.args.page.now.counts c.deref-term-items.result.now c.loop-term.term-index term c.loop-term-test.true c.term-item.is);
      few = omega (arith, c.loop-term.invariant.few, c.from-total.ensures, c.count_in.type_inv);
    }

pub returns : goal.returns
returns c =
    c.loop-term.invariant.sum
    ∙ ap (λ terms. score terms c.args.page.now.counts) (take_all c.loop-term.term-index c.deref-term-items.result.now c.loop-term-test.false ∙ c.deref-term-items.ensures.value ∙ c.self.view_is)
