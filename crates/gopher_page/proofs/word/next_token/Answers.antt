use Rattle.std.proofs.Common.{◌∙◌, sym, arith}
use Rattle.gopher_page.proofs.Tokens.{word_runs-cut, word_runs-whole}
use Rattle.gopher_page.proofs.word.next_token.Goals as goal

pub returns-then-is_word-clause-word : goal.returns-then-is_word-clause-word
returns-then-is_word-clause-word c =
    sym c.loop-run.invariant.same ∙ word_runs-cut c.loop-run.rest.now c.in-Some.run'.now c.in-Some.after.now _ _ c.in-Some.ensures.runs (sym c.is_word.ensures ∙ c.if-is_word.true)

pub loop-run-preserved : goal.loop-run-preserved
loop-run-preserved c = record {
  same = sym (word_runs-cut c.loop-run.rest.now c.in-Some.run'.now c.in-Some.after.now _ _ c.in-Some.ensures.runs (sym c.is_word.ensures ∙ c.if-is_word.false)) ∙ c.loop-run.invariant.same;
  shorter = omega (arith, c.in-Some.ensures.less);
}

pub returns-then-is_word-2-clause-word : goal.returns-then-is_word-2-clause-word
returns-then-is_word-2-clause-word c =
    sym c.loop-run.invariant.same ∙ word_runs-whole c.loop-run.rest.now _ c.in_default.ensures.runs (sym c.is_word-2.ensures ∙ c.if-is_word-2.true)

pub returns-else-is_word-2-clause-word : goal.returns-else-is_word-2-clause-word
returns-else-is_word-2-clause-word c =
    sym c.loop-run.invariant.same ∙ word_runs-whole c.loop-run.rest.now _ c.in_default.ensures.runs (sym c.is_word-2.ensures ∙ c.if-is_word-2.false)
