-- The postings of words in consecutive pages, and in consecutive segments.
use Rattle.std.proofs.Common.{◌≡◌, ℕ, false, ◌+◌, List, [], ◌∷◌, ◌++◌, length, map, refl, sym, ap, ◌∙◌}
use Rattle.std.proofs.lemmas.List.{map-append, length-map}
use Rattle.std.specs.List.{flat_map}
use Rattle.gopher_page.specs.Counts.{count_meant}
use Rattle.gopher_page.specs.Packed.{AreCounts}
use Rattle.gopher_page.specs.Page.{PageData}
use Rattle.gopher_segment.specs.Large.{in_table, table_pages}
use Rattle.gopher_segment.specs.Postings.{run_of}
use Rattle.gopher_segment.specs.Rows.{postings_of, page_rows, AreAllInOrder}
use Rattle.gopher_segment.specs.Segment.{SegmentData, pages_of, meant_counts}
use Rattle.gopher_segment.specs.SegmentRows.{Tell, AreRowsOf, AreConsecutive, AreSegmentTables}
use Rattle.gopher_segment.proofs.LargeLemmas.{length_in_table}
use Rattle.gopher_segment.proofs.WordPostings.{postings_of-append, page_postings, run_of-append}

run_both : (first : ℕ) (word : List ℕ) (pages more : List PageData) → run_of first (meant_counts false word pages) ++ run_of (first + length pages) (meant_counts false word more) ≡ run_of first (meant_counts false word (pages ++ more))
run_both first word pages more =
    let count : PageData → ℕ = λ page. count_meant false word page.counts in
    ap (λ n. run_of first (map count pages) ++ run_of (first + n) (map count more)) (sym (length-map pages count))
    ∙ sym (run_of-append first (map count pages) (map count more))
    ∙ ap (run_of first) (sym (map-append count pages more))

-- the rows of a page behind those of others
pub page_behind : (first : ℕ) (pages : List PageData) (page : PageData) (at : ℕ) (rows newer : List (List ℕ × List (ℕ × ℕ))) → Tell first pages rows → AreCounts page.counts → at ≡ first + length pages → newer ≡ rows ++ page_rows at page.counts → Tell first (pages ++ page ∷ []) newer
page_behind first pages page at rows newer told sound here is = λ word.
    ap (postings_of word) is
    ∙ postings_of-append word rows (page_rows at page.counts)
    ∙ (λ i. told word i ++ page_postings at word page.counts sound i)
    ∙ ap (λ n. run_of first (meant_counts false word pages) ++ run_of n (meant_counts false word (page ∷ []))) here
    ∙ run_both first word pages (page ∷ [])

-- ---- segments

module _ (word : List ℕ) where
  pub tables_runs : (first : ℕ) (segments : List SegmentData) (tables : List (List (List ℕ × List (ℕ × ℕ)))) → AreConsecutive first segments → AreSegmentTables segments tables
      → flat_map (postings_of word) tables ≡ run_of first (meant_counts false word (table_pages (pages_of segments)))
  tables_runs first [] [] consecutive are = refl
  tables_runs first [] (rows ∷ tables) consecutive are = absurd are
  tables_runs first (segment ∷ segments) [] consecutive are = absurd are
  tables_runs first (segment ∷ segments) (rows ∷ tables) consecutive are =
      let own : List PageData = table_pages segment.pages in
      let left : List PageData = table_pages (pages_of segments) in
      let here : postings_of word rows ≡ run_of first (meant_counts false word own) = are.0.tell word ∙ ap (λ n. run_of n (meant_counts false word own)) consecutive.0 in
      let rest : flat_map (postings_of word) tables ≡ run_of (first + length own) (meant_counts false word left) =
      tables_runs (first + length segment.pages) segments tables consecutive.1 are.1 ∙ ap (λ n. run_of (first + n) (meant_counts false word left)) (sym (length_in_table segment.pages)) in
      (λ i. here i ++ rest i) ∙ run_both first word own left ∙ ap (λ l. run_of first (meant_counts false word l)) (sym (map-append in_table segment.pages (pages_of segments)))

pub tables_order : (segments : List SegmentData) (tables : List (List (List ℕ × List (ℕ × ℕ)))) → AreSegmentTables segments tables → AreAllInOrder tables
tables_order [] [] are = tt
tables_order [] (rows ∷ tables) are = absurd are
tables_order (segment ∷ segments) [] are = absurd are
tables_order (segment ∷ segments) (rows ∷ tables) are = (are.0.order, tables_order segments tables are.1)

pub tables_push : (segments : List SegmentData) (tables : List (List (List ℕ × List (ℕ × ℕ)))) (segment : SegmentData) (rows : List (List ℕ × List (ℕ × ℕ))) → AreSegmentTables segments tables → AreRowsOf segment.first (table_pages segment.pages) rows
    → AreSegmentTables (segments ++ segment ∷ []) (tables ++ rows ∷ [])
tables_push [] [] segment rows are one = (one, tt)
tables_push [] (first ∷ tables) segment rows are one = absurd are
tables_push (first ∷ segments) [] segment rows are one = absurd are
tables_push (first ∷ segments) (table ∷ tables) segment rows are one = (are.0, tables_push segments tables segment rows are.1 one)
