use Rattle.std.proofs.Common.{◌≡◌, ℕ, ◌<◌, List, ◌++◌, length, get_or, set, refl, sym, ap, ◌∙◌, arith}
use Rattle.std.proofs.lemmas.List.{append-nil}
use Rattle.std.proofs.lemmas.List.Edits.{map_over_more}
use Rattle.gopher_segment.specs.Rows.{passed, taken}
use Rattle.gopher_segment.proofs.MergeLemmas.{left_before, none_before, now_at, flat_step}
use Rattle.gopher_segment.proofs.merging.take_runs.Goals as goal

pub loop-index-init : goal.loop-index-init
loop-index-init c =
    let begun : List (ℕ × ℕ) = c.args.runs.now.begun in
    record {
      cursors_so_far = left_before c.args.word.now c.args.first c.args.cursors.now c.requires;
      whole = refl;
      begun = sym (append-nil begun) ∙ ap (λ l. begun ++ l) (sym (none_before c.args.word.now c.args.first c.args.cursors.now c.requires));
    }

pub loop-index-preserved : goal.loop-index-preserved
loop-index-preserved c =
    let word : List ℕ = c.args.word.now in
    let tables : List (List (List ℕ × List (ℕ × ℕ))) = c.args.cursors.now in
    let rows : List (List ℕ × List (ℕ × ℕ)) = c.index-cursors-index.result in
    let within : c.loop-index.index < length tables = omega arith in
    let same : get_or c.loop-index.cursors c.loop-index.index rows ≡ get_or tables c.loop-index.index rows =
    now_at (passed word) tables c.loop-index.cursors c.loop-index.index rows within c.loop-index.invariant.cursors_so_far in
    record {
      cursors_so_far =
          ap (set c.loop-index.cursors c.loop-index.index) (c.in_ok-take_run.ensures.cursor ∙ ap (passed word) (sym c.index-cursors-index.is))
          ∙ map_over_more (passed word) tables c.loop-index.cursors c.loop-index.index rows within c.loop-index.invariant.cursors_so_far c.index-cursors-index.is;
      whole = c.in_ok-take_run.ensures.whole ∙ c.loop-index.invariant.whole;
      begun =
          c.in_ok-take_run.ensures.begun
          ∙ (λ i. c.loop-index.invariant.begun i ++ taken word (same i))
          ∙ flat_step (taken word) c.args.runs.now.begun tables c.loop-index.index rows within;
    }
