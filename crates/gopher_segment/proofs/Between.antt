-- Runs that stand one after another, taken as one.
use Rattle.std.proofs.Common.{◌≡◌, ℕ, zero, suc, ◌+◌, ◌-◌, ◌<◌, ◌≤◌, Bool, true, false, cond, List, [], ◌∷◌, ◌++◌, length, take, drop, refl, sym, ap, subst, ◌∙◌, arith}
use Rattle.std.proofs.Math.Seq.{take-add}
use Rattle.std.proofs.lemmas.List.{drop-drop, length-map}
use Rattle.std.specs.List.{flat_map, zip}
use Rattle.gopher_page.specs.Counts.{is_meant, AreMeantWords}
use Rattle.gopher_bytes.specs.Parts.{parts, start_at, AreEnds}
use Rattle.gopher_bytes.proofs.PartLemmas.{start_le_at}
use Rattle.gopher_segment.specs.Postings.{ArePackedRuns, one_run}
use Rattle.gopher_segment.specs.Rows.{words_of_rows, runs_of_rows, postings_where, postings_meant}
use Rattle.gopher_segment.proofs.RowLemmas.{word_at}
use Rattle.gopher_bytes.proofs.Zips.{length-zip, zip-take, zip-drop}

-- ---- their items

flat_parts : {A : Type 0} (items : List A) (from : ℕ) (ends : List ℕ) (s n : ℕ) → AreEnds from ends (length items) → s + n ≤ length ends
    → flat_map (λ part. part) (take n (drop s (parts items from ends))) ≡ take (start_at from ends (s + n) - start_at from ends s) (drop (start_at from ends s) items)
flat_parts items from [] (suc s) n chain within = absurd (omega (arith, within))
flat_parts items from [] zero (suc n) chain within = absurd (omega (arith, within))
flat_parts items from [] zero zero chain within =
    let none : 0 ≡ from - from = omega arith in
    ap (λ m. take m (drop from items)) none
flat_parts items from (end ∷ ends) (suc s) n chain within =
    let more : suc (s + n) ≡ suc s + n = omega arith in
    flat_parts items end ends s n chain.1 (omega (arith, within))
    ∙ ap (λ m. take (start_at from (end ∷ ends) m - start_at end ends s) (drop (start_at end ends s) items)) more
flat_parts items from (end ∷ ends) zero zero chain within =
    let none : 0 ≡ from - from = omega arith in
    ap (λ m. take m (drop from items)) none
flat_parts items from (end ∷ ends) zero (suc n) chain within =
    let last : ℕ = start_at end ends (0 + n) in
    let past : end ≤ last = start_le_at end ends _ (0 + n) chain.1 in
    let more : suc (0 + n) ≡ 0 + suc n = omega arith in
    let whole : end - from + (last - end) ≡ last - from = omega (arith, past, chain.0) in
    let forward : from + (end - from) ≡ end = omega (arith, chain.0) in
    let skip : drop end items ≡ drop (end - from) (drop from items) = ap (λ m. drop m items) (sym forward) ∙ sym (drop-drop (end - from) from items) in
    ap (λ l. take (end - from) (drop from items) ++ l) (flat_parts items end ends 0 n chain.1 (omega (arith, within)) ∙ ap (take (last - end)) skip)
    ∙ sym (take-add (end - from) (last - end) (drop from items))
    ∙ ap (λ m. take m (drop from items)) whole
    ∙ ap (λ m. take (start_at from (end ∷ ends) m - from) (drop from items)) more

-- page numbers beside counts, from where a run starts to where another does
pub runs_between : (pages counts ends : List ℕ) (start end first last : ℕ) → ArePackedRuns pages counts ends → start ≤ end → end ≤ length ends → first ≡ start_at 0 ends start → last ≡ start_at 0 ends end
    → zip (take (last - first) (drop first pages)) (take (last - first) (drop first counts)) ≡ one_run (take (end - start) (drop start (parts (zip pages counts) 0 ends)))
runs_between pages counts ends start end first last packed forward within from to =
    let whole : start + (end - start) ≡ end = omega arith in
    let chain : AreEnds 0 ends (length (zip pages counts)) = subst (AreEnds 0 ends) (sym (length-zip pages counts packed.same)) packed.chain in
    let same : length (drop first counts) ≡ length (drop first pages) = both first counts pages packed.same in
    zip-take (drop first pages) (drop first counts) (last - first) same
    ∙ ap (take (last - first)) (zip-drop pages counts first packed.same)
    ∙ (λ i. take (to i - from i) (drop (from i) (zip pages counts)))
    ∙ ap (λ m. take (start_at 0 ends m - start_at 0 ends start) (drop (start_at 0 ends start) (zip pages counts))) (sym whole)
    ∙ sym (flat_parts (zip pages counts) 0 ends start (end - start) chain (omega (arith, whole)))
  where
    both : (n : ℕ) (a b : List ℕ) → length a ≡ length b → length (drop n a) ≡ length (drop n b)
    both zero a b same = same
    both (suc n) [] [] same = refl
    both (suc n) [] (y ∷ b) same = absurd (omega (arith, same))
    both (suc n) (x ∷ a) [] same = absurd (omega (arith, same))
    both (suc n) (x ∷ a) (y ∷ b) same = both n a b (omega (arith, same))

-- ---- the rows of words that are meant

none_where : (test : List ℕ → Bool) (rows : List (List ℕ × List (ℕ × ℕ))) → ((k : ℕ) → k < length rows → test (word_at rows k) ≡ false) → postings_where test rows ≡ []
none_where test [] apart = refl
none_where test (row ∷ rows) apart = λ i. cond (apart 0 (omega arith) i) row.1 [] ++ none_where test rows (λ k within. apart (suc k) (omega arith)) i

where_between : (test : List ℕ → Bool) (rows : List (List ℕ × List (ℕ × ℕ))) (start n : ℕ) → ((k : ℕ) → k < start → k < length rows → test (word_at rows k) ≡ false) → ((k : ℕ) → start ≤ k → k < start + n → k < length rows → test (word_at rows k) ≡ true)
    → ((k : ℕ) → start + n ≤ k → k < length rows → test (word_at rows k) ≡ false) → postings_where test rows ≡ one_run (take n (drop start (runs_of_rows rows)))
where_between test [] zero zero before there after = refl
where_between test [] zero (suc n) before there after = refl
where_between test [] (suc start) zero before there after = refl
where_between test [] (suc start) (suc n) before there after = refl
where_between test (row ∷ rows) zero zero before there after = none_where test (row ∷ rows) (λ k within. after k (omega arith) within)
where_between test (row ∷ rows) zero (suc n) before there after =
    let rest = where_between test rows 0 n (λ k less within. absurd (omega (arith, less))) (λ k past less within. there (suc k) (omega arith) (omega arith) (omega arith)) (λ k past within. after (suc k) (omega arith) (omega arith)) in
    λ i. cond (there 0 (omega arith) (omega arith) (omega arith) i) row.1 [] ++ rest i
where_between test (row ∷ rows) (suc start) n before there after =
    let rest = where_between test rows start n (λ k less within. before (suc k) (omega arith) (omega arith)) (λ k past less within. there (suc k) (omega arith) (omega arith) (omega arith)) (λ k past within. after (suc k) (omega arith) (omega arith)) in
    λ i. cond (before 0 (omega arith) (omega arith) i) row.1 [] ++ rest i

pub rows_between : (is_prefix : Bool) (sought : List ℕ) (rows : List (List ℕ × List (ℕ × ℕ))) (start end : ℕ) → AreMeantWords (words_of_rows rows) is_prefix sought start end → postings_meant is_prefix sought rows ≡ one_run (take (end - start) (drop start (runs_of_rows rows)))
rows_between is_prefix sought rows start end are =
    let size : length (words_of_rows rows) ≡ length rows = length-map rows (λ (row : List ℕ × List (ℕ × ℕ)). row.0) in
    where_between (is_meant is_prefix sought) rows start (end - start)
    (λ k less within. are.before k less)
    (λ k past less within. are.meant k past (omega (arith, less, are.forward)))
    (λ k past within. are.others k (omega (arith, past, are.forward)) (omega (arith, within, size)))
