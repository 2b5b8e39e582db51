use Rattle.std.proofs.Common.{◌≡◌, true, false, [], ◌∙◌, List, ℕ, sym, get_or, arith}
use Rattle.std.proofs.lemmas.List.{get_or_default}
use Rattle.gopher_page.specs.Words.{same_word}
use Rattle.gopher_page.proofs.Lengths.{one_word, one_word_more, one_word_other}
use Rattle.gopher_page.proofs.counts.end_of_run.Goals as goal

pub loop-end-init : goal.loop-end-init
loop-end-init c = record {
  after = omega arith;
  within = omega (arith, c.requires);
  run = one_word c.args.words.now c.args.start c.requires;
}

pub loop-end-preserved : goal.loop-end-preserved
loop-end-preserved c =
    let words : List (List ℕ) = c.args.words.now in
    let here : get_or words c.loop-end.end [] ≡ c.index-words-end.result = get_or_default words c.loop-end.end [] _ c.loop-end-test.true ∙ sym c.index-words-end.is in
    let first : get_or words c.args.start [] ≡ c.index-words-start.result = get_or_default words c.args.start [] _ c.requires ∙ sym c.index-words-start.is in
    let same : same_word (get_or words c.loop-end.end []) (get_or words c.args.start []) ≡ true = (λ i. same_word (here i) (first i)) ∙ sym c.eq.ensures ∙ c.if-eq.true in
    record {
      after = omega (arith, c.loop-end.invariant.after);
      within = omega (arith, c.loop-end-test.true);
      run = one_word_more words c.args.start c.loop-end.end c.loop-end.invariant.after c.loop-end-test.true same c.loop-end.invariant.run;
    }

pub returns-else-eq-clause-run : goal.returns-else-eq-clause-run
returns-else-eq-clause-run c =
    let words : List (List ℕ) = c.args.words.now in
    let here : get_or words c.loop-end.end [] ≡ c.index-words-end.result = get_or_default words c.loop-end.end [] _ c.loop-end-test.true ∙ sym c.index-words-end.is in
    let first : get_or words c.args.start [] ≡ c.index-words-start.result = get_or_default words c.args.start [] _ c.requires ∙ sym c.index-words-start.is in
    let apart : same_word (get_or words c.loop-end.end []) (get_or words c.args.start []) ≡ false = (λ i. same_word (here i) (first i)) ∙ sym c.eq.ensures ∙ c.if-eq.false in
    one_word_other words c.args.start c.loop-end.end c.loop-end-test.true apart c.loop-end.invariant.run
