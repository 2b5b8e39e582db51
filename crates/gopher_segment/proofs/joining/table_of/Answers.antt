use Rattle.std.proofs.Common.{◌≡◌, ℕ, List, ◌++◌, ◌∷◌, [], length, drop, sym, ap, ◌∙◌, append_assoc, arith}
use Rattle.std.proofs.lemmas.List.{length-append, get_or-map}
use Rattle.std.proofs.lemmas.Result.{IfOk-weaker}
use Rattle.std.specs.List.{zip}
use Rattle.gopher_segment.specs.Rows.{joined_rows}
use Rattle.gopher_segment.proofs.RowLemmas.{word_at}
use Rattle.gopher_bytes.proofs.Zips.{zip-append}
use Rattle.gopher_segment.proofs.JoinLemmas.{all_joined}
use Rattle.gopher_segment.proofs.joining.table_of.Goals as goal

pub loop-at-preserved : goal.loop-at-preserved
loop-at-preserved c =
    let rows : List (List ℕ × List (ℕ × ℕ)) = c.args.rows.now in
    let word : List ℕ = word_at rows c.loop-at.at in
    let postings : List (ℕ × ℕ) = c.take_word.new.runs.begun in
    let is : c.word.result.now ≡ word =
    c.word.ensures ∙ ap (λ (row : List ℕ × List (ℕ × ℕ)). row.0) c.index-rows-at.is ∙ sym (get_or-map (λ (row : List ℕ × List (ℕ × ℕ)). row.0) rows c.loop-at.at c.index-rows-at.result [] c.loop-at-test.true)
    in
    let pushed : c.push.new.self ≡ c.loop-at.words ++ word ∷ [] = c.in_ok-push.ensures.added ∙ ap (λ w. c.loop-at.words ++ w ∷ []) is in
    let ended : c.end_run.new.self.whole ≡ c.loop-at.runs.whole ++ postings ∷ [] = c.in_ok-end_run.ensures.whole ∙ ap (λ l. l ++ postings ∷ []) c.in_ok-at.ensures.whole in
    let so_far : List (List ℕ × List (ℕ × ℕ)) = zip c.loop-at.words c.loop-at.runs.whole in
    let left : List (List ℕ × List (ℕ × ℕ)) = joined_rows (drop c.in_ok-at.at rows) in
    record {
      same = omega (arith, c.loop-at.invariant.same, ap length ended, ap length pushed, length-append c.loop-at.runs.whole (postings ∷ []), length-append c.loop-at.words (word ∷ []));
      ended = c.in_ok-end_run.ensures.begun;
      inside = c.in_ok-at.ensures.inside;
      joined =
          (λ i. zip (pushed i) (ended i) ++ left)
          ∙ ap (λ l. l ++ left) (zip-append c.loop-at.words (word ∷ []) c.loop-at.runs.whole (postings ∷ []) c.loop-at.invariant.same)
          ∙ append_assoc so_far ((word, postings) ∷ []) left
          ∙ ap (λ l. so_far ++ l) (sym c.in_ok-at.ensures.joined)
          ∙ c.loop-at.invariant.joined;
    }

pub returns : goal.returns
returns c =
    let so_far : List (List ℕ × List (ℕ × ℕ)) = zip c.loop-at.words c.loop-at.runs.whole in
    let all = all_joined c.args.rows.now so_far c.loop-at.at (omega (arith, c.loop-at-test.false)) c.loop-at.invariant.joined in
    IfOk-weaker c.packed.result (λ table. table ≡ so_far) (λ table. table ≡ joined_rows c.args.rows.now) (λ table is. is ∙ all) c.packed.ensures
