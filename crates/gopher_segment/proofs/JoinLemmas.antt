-- Rows joined: what they tell, and their order.
use Rattle.std.proofs.Common.{◌≡◌, ℕ, Bool, true, false, ◌+◌, ◌<◌, ◌≤◌, List, [], ◌∷◌, ◌++◌, cond, not, ◌&&◌, length, drop, get_or, append_assoc, refl, sym, ap, subst, ◌∙◌, arith}
use Rattle.std.proofs.lemmas.List.{drop_all, get_or-map, length-map, append-nil}
use Rattle.std.proofs.lemmas.List.Kept.{IsStrictlySortedBy-dedup}
use Rattle.std.specs.List.{dedup_from, flat_map, filter}
use Rattle.std.specs.List.Sorted.{IsStrictlySortedBy, IsSorted, IsStable}
use Rattle.std.specs.Ordering.{nat_cmp, is_lt, is_eq, ordering_reverse}
use Rattle.std.specs.declared.cmp.Ordering.{Ordering}
use Rattle.std.specs.declared.cmp.Ordering.TheVariants.{Less, Equal, Greater}
use Rattle.std.specs.Cmp.Lexicographic.{slice_cmp, bytes_decides, nat_list_cmp_total, texts_ties}
use Rattle.gopher_page.specs.Words.{same_word}
use Rattle.gopher_page.specs.Counts.{is_before}
use Rattle.gopher_segment.specs.Rows.{words_of_rows, AreRowsInOrder, postings_of, TellAlike, joined_from, joined_rows}

abbrev Row : Type 0
Row = List ℕ × List (ℕ × ℕ)

-- ---- what joined rows tell

both_postings : (b : Bool) (first rest : List (ℕ × ℕ)) → cond b (first ++ rest) [] ≡ cond b first [] ++ cond b rest []
both_postings true first rest = refl
both_postings false first rest = refl

joined_postings : (word : List ℕ) (row : Row) (rows : List Row) → postings_of word (joined_from row rows) ≡ postings_of word (row ∷ rows)
joined_postings word row [] = refl
joined_postings word row (next ∷ rows) = by (joined_postings word (row.0, row.1 ++ next.1) rows) (joined_postings word next rows) (same_word next.0 row.0) refl
  where
    by : postings_of word (joined_from (row.0, row.1 ++ next.1) rows) ≡ postings_of word ((row.0, row.1 ++ next.1) ∷ rows) → postings_of word (joined_from next rows) ≡ postings_of word (next ∷ rows)
        → (b : Bool) → same_word next.0 row.0 ≡ b → postings_of word (cond b (joined_from (row.0, row.1 ++ next.1) rows) (row ∷ joined_from next rows)) ≡ postings_of word (row ∷ next ∷ rows)
    by with_next alone true e =
        let here : List (ℕ × ℕ) = cond (same_word word row.0) row.1 [] in
        with_next
        ∙ ap (λ l. l ++ postings_of word rows) (both_postings (same_word word row.0) row.1 next.1)
        ∙ append_assoc here (cond (same_word word row.0) next.1 []) (postings_of word rows)
        ∙ ap (λ w. here ++ (cond (same_word word w) next.1 [] ++ postings_of word rows)) (sym ((bytes_decides next.0 row.0).0 e))
    by with_next alone false e = ap (λ l. cond (same_word word row.0) row.1 [] ++ l) alone

-- ---- the order of joined rows

joined_words : (row : Row) (rows : List Row) → words_of_rows (joined_from row rows) ≡ dedup_from same_word row.0 (words_of_rows rows)
joined_words row [] = refl
joined_words row (next ∷ rows) = by (joined_words (row.0, row.1 ++ next.1) rows) (joined_words next rows) (same_word next.0 row.0)
  where
    by : words_of_rows (joined_from (row.0, row.1 ++ next.1) rows) ≡ dedup_from same_word row.0 (words_of_rows rows) → words_of_rows (joined_from next rows) ≡ dedup_from same_word next.0 (words_of_rows rows)
        → (b : Bool) → words_of_rows (cond b (joined_from (row.0, row.1 ++ next.1) rows) (row ∷ joined_from next rows)) ≡ cond b (dedup_from same_word row.0 (words_of_rows rows)) (row.0 ∷ dedup_from same_word next.0 (words_of_rows rows))
    by with_next alone true = with_next
    by with_next alone false = ap (λ l. row.0 ∷ l) alone

words_sorted : (rows : List Row) → IsSorted (λ x y. slice_cmp nat_cmp x.0 y.0) rows → IsSorted (slice_cmp nat_cmp) (words_of_rows rows)
words_sorted rows sorted = λ k d low high.
    let size : length (words_of_rows rows) ≡ length rows = length-map rows (λ (row : Row). row.0) in
    let at : (i : ℕ) → i < length rows → get_or (words_of_rows rows) i d ≡ (get_or rows i (d, [])).0 = λ i within. get_or-map (λ (row : Row). row.0) rows i (d, []) d within in
    (λ i. is_before (at (k + 1) (omega (arith, high, size)) i) (at k (omega (arith, high, size)) i)) ∙ sorted k (d, []) low (omega (arith, high, size))

pub joined_in_order : (rows : List Row) → IsSorted (λ x y. slice_cmp nat_cmp x.0 y.0) rows → AreRowsInOrder (joined_rows rows)
unfolding IsStrictlySortedBy
joined_in_order [] sorted = tt
joined_in_order (row ∷ rows) sorted =
    subst (IsStrictlySortedBy (slice_cmp nat_cmp)) (sym (joined_words row rows)) (IsStrictlySortedBy-dedup nat_list_cmp_total texts_ties (words_of_rows (row ∷ rows)) (words_sorted (row ∷ rows) sorted))

-- ---- rows sorted

kept_postings : (word : List ℕ) (rows : List Row) → postings_of word rows ≡ flat_map (λ row. row.1) (filter (λ row. same_word word row.0) rows)
kept_postings word [] = refl
kept_postings word (row ∷ rows) = by (kept_postings word rows) (same_word word row.0)
  where
    by : postings_of word rows ≡ flat_map (λ (r : Row). r.1) (filter (λ (r : Row). same_word word r.0) rows) → (b : Bool) → cond b row.1 [] ++ postings_of word rows ≡ flat_map (λ (r : Row). r.1) (cond b (row ∷ filter (λ (r : Row). same_word word r.0) rows) (filter (λ (r : Row). same_word word r.0) rows))
    by rest true = ap (λ l. row.1 ++ l) rest
    by rest false = rest

-- two words tie exactly where they are the same
tied : (word other : List ℕ) → (not (is_before word other) && not (is_before other word)) ≡ same_word word other
tied word other =
    ap (λ o. not (is_before word other) && not (is_lt o)) (nat_list_cmp_total.antisymm other word) ∙ by (slice_cmp nat_cmp word other) ∙ sym (texts_ties word other)
  where
    by : (o : Ordering) → (not (is_lt o) && not (is_lt (ordering_reverse o))) ≡ is_eq o
    by Less = refl
    by Equal = refl
    by Greater = refl

pub sorted_alike : (rows sorted : List Row) → IsStable (λ x y. slice_cmp nat_cmp x.0 y.0) rows sorted → TellAlike rows sorted
sorted_alike rows sorted stable = λ word.
    kept_postings word sorted
    ∙ (λ i. flat_map (λ (row : Row). row.1) (filter (λ (row : Row). sym (tied word row.0) i) sorted))
    ∙ ap (flat_map (λ (row : Row). row.1)) (stable (word, []))
    ∙ (λ i. flat_map (λ (row : Row). row.1) (filter (λ (row : Row). tied word row.0 i) rows))
    ∙ sym (kept_postings word rows)

pub joined_alike : (rows : List Row) → TellAlike rows (joined_rows rows)
joined_alike [] = λ word. refl
joined_alike (row ∷ rows) = λ word. joined_postings word row rows

-- ---- the rows of one word, one after another

-- rows of which all are joined, behind those that were
pub all_joined : (rows so_far : List Row) (at : ℕ) → length rows ≤ at → so_far ++ joined_rows (drop at rows) ≡ joined_rows rows → so_far ≡ joined_rows rows
all_joined rows so_far at past whole = sym (append-nil so_far) ∙ ap (λ l. so_far ++ joined_rows l) (sym (drop_all at rows past)) ∙ whole
