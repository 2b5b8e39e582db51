use Rattle.std.proofs.Common.{◌≡◌, ℕ, ◌-◌, List, [], ◌∷◌, ◌++◌, ◌∙◌, length, drop, get_or, ap, sym, append_assoc, arith}
use Rattle.std.specs.List.{zip}
use Rattle.std.proofs.lemmas.List.{get_or_default, length-append}
use Rattle.gopher_bytes.proofs.Zips.{zip-append}
use Rattle.gopher_page.specs.Counts.{run_lengths}
use Rattle.gopher_page.proofs.counts.push_runs.Goals as goal

pub loop-start-preserved : goal.loop-start-preserved
loop-start-preserved c =
    let words : List (List ℕ) = c.args.words.now in
    let start : ℕ = c.loop-start.start in
    let end : ℕ = c.end_of_run-end.result in
    let distinct : List (List ℕ) = c.loop-start.distinct in
    let counts : List ℕ = c.loop-start.counts in
    let rest : List (List ℕ × ℕ) = run_lengths (drop end words) in
    let word : List ℕ = get_or words start [] in
    let is : c.word.result.now ≡ word = c.word.ensures ∙ c.index-words-start.is ∙ sym (get_or_default words start [] _ c.loop-start-test.true) in
    let grown : c.push.new.self ≡ distinct ++ word ∷ [] = c.in_ok-push.ensures.added ∙ ap (λ w. distinct ++ w ∷ []) is in
    let counted : c.push-in-loop-start.new.self ≡ counts ++ (end - start) ∷ [] = c.in_ok-push-2.ensures in
    record {
      runs =
          (λ j. zip (grown j) (counted j) ++ rest)
          ∙ ap (λ l. l ++ rest) (zip-append distinct (word ∷ []) counts ((end - start) ∷ []) c.loop-start.invariant.same)
          ∙ append_assoc (zip distinct counts) ((word, end - start) ∷ []) rest
          ∙ ap (λ l. zip distinct counts ++ l) (sym c.end_of_run-end.ensures.run)
          ∙ c.loop-start.invariant.runs;
      same = omega (arith, c.loop-start.invariant.same, ap length counted, ap length grown, length-append counts ((end - start) ∷ []), length-append distinct (word ∷ []));
      within = c.end_of_run-end.ensures.within;
    }
