use Rattle.std.proofs.Common.{◌<◌, ◌∙◌, length, drop, slice_get, ap, sym, arith}
use Rattle.gopher_page.specs.Query.{wanted}
use Rattle.gopher_page.proofs.Terms.{wanted_here, wanted_next, wanted_skip, wanted_end}
use Rattle.gopher_page.proofs.query.Query.wanted_term.Goals as goal

pub loop-term-preserved-then-not-is_wanted : goal.loop-term-preserved-then-not-is_wanted
loop-term-preserved-then-not-is_wanted c =
    wanted_skip c.deref-term-items.result.now c.loop-term.term-index c.term-item.result c.loop-term.left c.loop-term-test.true c.term-item.is (sym c.is_wanted.ensures ∙ c.if-not-is_wanted.true)
    ∙ c.loop-term.invariant

pub returns-then-left-eq0 : goal.returns-then-left-eq0
returns-then-left-eq0 c =
    let terms = c.deref-term-items.result.now in
    ap (λ all. slice_get (wanted all) c.args.index) (sym (c.deref-term-items.ensures.value ∙ c.self.view_is)) ∙ sym c.loop-term.invariant
    ∙ ap (slice_get (wanted (drop c.loop-term.term-index terms))) c.if-left-eq0.true
    ∙ wanted_here terms c.loop-term.term-index c.term-item.result c.loop-term-test.true c.term-item.is (sym c.is_wanted.ensures ∙ c.if-not-is_wanted.false)

pub loop-term-preserved : goal.loop-term-preserved
loop-term-preserved c =
    wanted_next c.deref-term-items.result.now c.loop-term.term-index c.term-item.result c.loop-term.left c.loop-term-test.true c.term-item.is (sym c.is_wanted.ensures ∙ c.if-not-is_wanted.false)
    (λ none. omega (arith, none, c.if-left-eq0.false)) ∙ c.loop-term.invariant

pub unreachable-requires : goal.unreachable-requires
unreachable-requires c =
    let terms = c.deref-term-items.result.now in
    let within : c.args.index < length (wanted terms) = rw (c.deref-term-items.ensures.value, c.self.view_is) c.requires in
    wanted_end terms c.loop-term.term-index c.loop-term.left c.args.index c.loop-term-test.false within c.loop-term.invariant
