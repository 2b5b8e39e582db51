use Rattle.std.proofs.Common.{ℕ, List, ◌++◌, ◌∷◌, [], take, sym, ap, ◌∙◌, append_assoc, arith}
use Rattle.std.proofs.lemmas.List.{map_more}
use Rattle.std.proofs.lemmas.Option.{get_or_from_slice_get}
use Rattle.gopher_segment.specs.Postings.{pieces}
use Rattle.gopher_segment.specs.Rows.{page_rows}
use Rattle.gopher_segment.proofs.gathering.add_page.Goals as goal

pub loop-index-preserved : goal.loop-index-preserved
loop-index-preserved c =
    let counts : List (List ℕ × ℕ) = c.counts-counts.result.now in
    let entry : List ℕ × ℕ = (c.get-count.result.0.now, c.get-count.result.1) in
    let row : List ℕ × List (ℕ × ℕ) = (entry.0, pieces c.args.number entry.1) in
    let so_far = page_rows c.args.number (take c.loop-index.index counts) in
    record {
      so_far =
          c.push_reserved.ensures.items
          ∙ (λ i. c.loop-index.invariant.so_far i ++ c.new.ensures i ∷ [])
          ∙ append_assoc c.args.rows.now.items so_far (row ∷ [])
          ∙ ap (λ l. c.args.rows.now.items ++ l)
          (sym (map_more (λ (e : List ℕ × ℕ). (e.0, pieces c.args.number e.1)) counts c.loop-index.index entry (omega arith)
          ∙ ap (λ (e : List ℕ × ℕ). so_far ++ (e.0, pieces c.args.number e.1) ∷ []) (get_or_from_slice_get counts c.loop-index.index entry entry c.get-count.ensures)));
      room = omega (arith, c.loop-index.invariant.room, c.push_reserved.ensures.len, c.push_reserved.ensures.capacity, c.loop-index-test.true);
    }
