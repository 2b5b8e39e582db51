use Rattle.std.proofs.Common.{◌≡◌, ℕ, ◌+◌, ◌<◌, Bool, List, [], ◌∷◌, ◌++◌, length, take, get_or, refl, sym, ap, ◌∙◌, arith}
use Rattle.std.specs.Arc.{arc_value}
use Rattle.std.specs.Prelude.{nat_lt}
use Rattle.std.proofs.lemmas.Bool.{cond-false, cond-true}
use Rattle.std.proofs.lemmas.List.{take_all, take_more}
use Rattle.gopher_page.specs.Page.{PageData}
use Rattle.gopher_page.specs.Query.{TermData, count_of_term, is_not, joined, matches, score}
use Rattle.gopher_page.specs.declared.query.Operator.{Operator}
use Rattle.gopher_page.proofs.OneMoreTerm.{all_match, matches_one_more, score_next, score_of_none}
use Rattle.gopher_index.proofs.Taking.{takes_scored, takes_unmatched}
use Rattle.gopher_index.proofs.search.rank_page.Goals as goal

-- whether a page matches after the next term
joined_next : (page read : PageData) (items : List TermData) (i : ℕ) (term : TermData) (operator : Operator) (n : ℕ) (before after : Bool) → i < length items → term ≡ get_or items i term → read ≡ page
    → operator ≡ term.operator → n ≡ count_of_term read.counts term → before ≡ matches (take i items) page.counts → after ≡ joined operator before (nat_lt 0 n) → after ≡ matches (take (i + 1) items) page.counts
joined_next page read items i term operator n before after within is same joins counted so_far now =
    now ∙ (λ j. joined (joins j) (so_far j) (nat_lt 0 ((counted ∙ ap (λ (p : PageData). count_of_term p.counts term) same) j)))
    ∙ sym (ap (λ l. matches l page.counts) (take_more items i term within ∙ ap (λ t. take i items ++ t ∷ []) (sym is)) ∙ matches_one_more page.counts (take i items) term)

pub loop-term-init : goal.loop-term-init
loop-term-init c =
    let counts = (arc_value c.args.page.now).counts in
    record { truth = sym (all_match counts); sum = sym (score_of_none counts); few = omega arith }

pub loop-term-preserved-then-is_not : goal.loop-term-preserved-then-is_not
loop-term-preserved-then-is_not c =
    let page = arc_value c.args.page.now in
    let term = c.term-item.result in
    let items = c.terms-term-items.result.now in
    let passed = cond-true (is_not term.operator) 0 (count_of_term page.counts term) (ap is_not (sym c.operator-in-loop-term.ensures) ∙ sym c.is_not.ensures ∙ c.if-is_not.true) in
    record {
      truth = joined_next page c.deref.result.now items c.loop-term.term-index term c.operator.result c.count_in-count.result c.loop-term.truth c.join-truth.result c.loop-term-test.true c.term-item.is c.deref.ensures c.operator.ensures c.count_in-count.ensures c.loop-term.invariant.truth c.join-truth.ensures;
      sum = omega (arith, passed, c.loop-term.invariant.sum, score_next page.counts items c.loop-term.term-index term c.loop-term-test.true c.term-item.is);
      few = omega (arith, c.loop-term.invariant.few);
    }

pub loop-term-preserved : goal.loop-term-preserved
loop-term-preserved c =
    let page = arc_value c.args.page.now in
    let term = c.term-item.result in
    let items = c.terms-term-items.result.now in
    let counted = c.count_in-count.ensures ∙ ap (λ (p : PageData). count_of_term p.counts term) c.deref.ensures in
    let kept = cond-false (is_not term.operator) 0 (count_of_term page.counts term) (ap is_not (sym c.operator-in-loop-term.ensures) ∙ sym c.is_not.ensures ∙ c.if-is_not.false) in
    record {
      truth = joined_next page c.deref.result.now items c.loop-term.term-index term c.operator.result c.count_in-count.result c.loop-term.truth c.join-truth.result c.loop-term-test.true c.term-item.is c.deref.ensures c.operator.ensures c.count_in-count.ensures c.loop-term.invariant.truth c.join-truth.ensures;
      sum = omega (arith, kept, c.from-score.ensures, counted, c.loop-term.invariant.sum, score_next page.counts items c.loop-term.term-index term c.loop-term-test.true c.term-item.is);
      few = omega (arith, c.loop-term.invariant.few, c.from-score.ensures, c.count_in-count.type_inv);
    }

pub returns-in_ok-insert : goal.returns-in_ok-insert
returns-in_ok-insert c =
    let page = arc_value c.args.page.now in
    let all = take_all c.loop-term.term-index c.terms-term-items.result.now c.loop-term-test.false ∙ c.terms-term-items.ensures.terms in
    takes_scored c.args.query.now page page c.loop-term.truth c.loop-term.score c.args.best.now c.insert.new.self refl
    (c.loop-term.invariant.truth ∙ ap (λ terms. matches terms page.counts) all) c.if-truth.true
    (c.loop-term.invariant.sum ∙ ap (λ terms. score terms page.counts) all) c.in_ok-insert.ensures.least c.in_ok-insert.ensures.hits

pub returns-else-truth : goal.returns-else-truth
returns-else-truth c =
    let page = arc_value c.args.page.now in
    let all = take_all c.loop-term.term-index c.terms-term-items.result.now c.loop-term-test.false ∙ c.terms-term-items.ensures.terms in
    takes_unmatched c.args.query.now page c.args.best.now
    (ap (λ terms. matches terms page.counts) (sym all) ∙ sym c.loop-term.invariant.truth ∙ c.if-truth.false)
