-- The postings of a word, in tables and in pages.
use Rattle.std.proofs.Common.{◌≡◌, ℕ, zero, suc, ◌+◌, ◌<◌, Bool, true, false, List, [], ◌∷◌, ◌++◌, cond, length, map, append_assoc, refl, sym, ap, subst, ◌∙◌, arith}
use Rattle.std.proofs.lemmas.List.{append-nil}
use Rattle.std.proofs.lemmas.List.Sums.{sum_by-cons}
use Rattle.std.proofs.lemmas.Map.Keys.{sorted_head, sorted_tail}
use Rattle.std.specs.List.{AllByRecursion, flat_map, zip}
use Rattle.std.specs.List.Sorted.{IsStrictlySortedBy}
use Rattle.std.specs.Ordering.{nat_cmp, is_eq}
use Rattle.std.specs.declared.cmp.Ordering.TheVariants.{Less}
use Rattle.std.specs.Cmp.Lexicographic.{slice_cmp, bytes_decides, nat_list_cmp_total, texts_ties}
use Rattle.gopher_page.specs.Words.{same_word}
use Rattle.gopher_page.specs.Counts.{count_where, count_meant}
use Rattle.gopher_page.specs.Packed.{AreCounts}
use Rattle.gopher_segment.specs.Postings.{pieces, run_of}
use Rattle.gopher_segment.specs.Rows.{words_of_rows, AreRowsInOrder, postings_of, page_rows, first_word, passed, rows_left, taken, AreAllInOrder}
use Rattle.gopher_segment.proofs.MergeLemmas.{IsFrom, AreFrom}
use Rattle.gopher_bytes.proofs.Zips.{zip-append}
use Rattle.gopher_segment.proofs.WordOrder.{less_from_apart}

-- each of the words comes after another
abbrev AllAfter : List ℕ → List (List ℕ) → Type 0
AllAfter word words = AllByRecursion (λ later. slice_cmp nat_cmp word later ≡ Less) words

after_all : (word next : List ℕ) (words : List (List ℕ)) → slice_cmp nat_cmp word next ≡ Less → AllAfter next words → AllAfter word words
after_all word next [] less after = tt
after_all word next (later ∷ words) less after = (nat_list_cmp_total.trans word next later less after.0, after_all word next words less after.1)

apart_from_less : (word later : List ℕ) → slice_cmp nat_cmp word later ≡ Less → same_word word later ≡ false
apart_from_less word later less = texts_ties word later ∙ ap is_eq less

-- ---- rows

pub postings_of-append : (word : List ℕ) (a b : List (List ℕ × List (ℕ × ℕ))) → postings_of word (a ++ b) ≡ postings_of word a ++ postings_of word b
postings_of-append word [] b = refl
postings_of-append word (row ∷ a) b =
    ap (λ l. cond (same_word word row.0) row.1 [] ++ l) (postings_of-append word a b) ∙ sym (append_assoc (cond (same_word word row.0) row.1 []) (postings_of word a) (postings_of word b))

-- a word before all others isn't there
postings_before : (word : List ℕ) (rows : List (List ℕ × List (ℕ × ℕ))) → AllAfter word (words_of_rows rows) → postings_of word rows ≡ []
postings_before word [] after = refl
postings_before word (row ∷ rows) after = λ i. cond (apart_from_less word row.0 after.0 i) row.1 [] ++ postings_before word rows after.1 i

-- ---- merging

pub no_postings_left : (word : List ℕ) (tables : List (List (List ℕ × List (ℕ × ℕ)))) → rows_left tables ≡ 0 → flat_map (postings_of word) tables ≡ []
no_postings_left word [] none = refl
no_postings_left word ([] ∷ tables) none = no_postings_left word tables (omega (arith, none))
no_postings_left word ((row ∷ rows) ∷ tables) none = absurd (omega (arith, none))

none_of : (b : Bool) → ◌≡◌ {A = List (ℕ × ℕ)} [] (cond b [] [] ++ [])
none_of true = refl
none_of false = refl

-- the postings of any word are those that are taken, if it is that word, and those that are left
pass_one : (sought word : List ℕ) (rows : List (List ℕ × List (ℕ × ℕ))) → postings_of sought rows ≡ cond (same_word sought word) (taken word rows) [] ++ postings_of sought (passed word rows)
pass_one sought word [] = none_of (same_word sought word)
pass_one sought word (row ∷ rows) = by (same_word row.0 word) refl
  where
    none : (b : Bool) → postings_of sought (row ∷ rows) ≡ cond b [] [] ++ postings_of sought (row ∷ rows)
    none true = refl
    none false = refl

    by : (b : Bool) → same_word row.0 word ≡ b → postings_of sought (row ∷ rows) ≡ cond (same_word sought word) (cond b row.1 []) [] ++ postings_of sought (cond b rows (row ∷ rows))
    by true e = ap (λ w. cond (same_word sought w) row.1 [] ++ postings_of sought rows) ((bytes_decides row.0 word).0 e)
    by false e = none (same_word sought word)

-- and of the word itself none is left
passed_none : (word : List ℕ) (rows : List (List ℕ × List (ℕ × ℕ))) → AreRowsInOrder rows → IsFrom word (first_word rows) → postings_of word (passed word rows) ≡ []
passed_none word [] order from = refl
passed_none word (row ∷ rows) order from = by (same_word row.0 word) refl
  where
    after : AllAfter row.0 (words_of_rows rows)
    after = sorted_head (slice_cmp nat_cmp) row.0 (words_of_rows rows) order

    by : (b : Bool) → same_word row.0 word ≡ b → postings_of word (cond b rows (row ∷ rows)) ≡ []
    by true e = postings_before word rows (subst (λ w. AllAfter w (words_of_rows rows)) ((bytes_decides row.0 word).0 e) after)
    by false e =
        let less : slice_cmp nat_cmp word row.0 ≡ Less = less_from_apart row.0 word from e in
        postings_before word (row ∷ rows) (less, after_all word row.0 (words_of_rows rows) less after)

pub pass_all : (sought word : List ℕ) (tables : List (List (List ℕ × List (ℕ × ℕ)))) → AreAllInOrder tables → AreFrom word tables
    → flat_map (postings_of sought) tables ≡ cond (same_word sought word) (flat_map (taken word) tables) [] ++ flat_map (postings_of sought) (map (passed word) tables)
pass_all sought word [] orders from = none_of (same_word sought word)
pass_all sought word (rows ∷ tables) orders from =
    (λ i. pass_one sought word rows i ++ pass_all sought word tables orders.1 from.1 i)
    ∙ by (same_word sought word) refl
  where
    left : List (ℕ × ℕ)
    left = postings_of sought (passed word rows)

    lefts : List (ℕ × ℕ)
    lefts = flat_map (postings_of sought) (map (passed word) tables)

    none_left : same_word sought word ≡ true → left ≡ []
    none_left e = subst (λ w. postings_of w (passed word rows) ≡ []) (sym ((bytes_decides sought word).0 e)) (passed_none word rows orders.0 from.0)

    by : (b : Bool) → same_word sought word ≡ b
        → (cond b (taken word rows) [] ++ left) ++ (cond b (flat_map (taken word) tables) [] ++ lefts) ≡ cond b (taken word rows ++ flat_map (taken word) tables) [] ++ (left ++ lefts)
    by true e =
        (λ i. (taken word rows ++ none_left e i) ++ (flat_map (taken word) tables ++ lefts))
        ∙ ap (λ l. l ++ (flat_map (taken word) tables ++ lefts)) (append-nil (taken word rows))
        ∙ sym (append_assoc (taken word rows) (flat_map (taken word) tables) lefts)
        ∙ (λ i. (taken word rows ++ flat_map (taken word) tables) ++ (sym (none_left e) i ++ lefts))
    by false e = refl

pub runs_step : (sought word : List ℕ) (words : List (List ℕ)) (runs : List (List (ℕ × ℕ))) (run : List (ℕ × ℕ)) (tables : List (List (List ℕ × List (ℕ × ℕ)))) → length runs ≡ length words → run ≡ flat_map (taken word) tables → AreAllInOrder tables → AreFrom word tables
    → postings_of sought (zip (words ++ word ∷ []) (runs ++ run ∷ [])) ++ flat_map (postings_of sought) (map (passed word) tables) ≡ postings_of sought (zip words runs) ++ flat_map (postings_of sought) tables
runs_step sought word words runs run tables same is orders from =
    let here : List (ℕ × ℕ) = cond (same_word sought word) run [] in
    let before : List (ℕ × ℕ) = postings_of sought (zip words runs) in
    let lefts : List (ℕ × ℕ) = flat_map (postings_of sought) (map (passed word) tables) in
    let grown : postings_of sought (zip (words ++ word ∷ []) (runs ++ run ∷ [])) ≡ before ++ here =
    ap (postings_of sought) (zip-append words (word ∷ []) runs (run ∷ []) same) ∙ postings_of-append sought (zip words runs) ((word, run) ∷ []) ∙ ap (λ l. before ++ l) (append-nil here) in
    ap (λ l. l ++ lefts) grown
    ∙ append_assoc before here lefts
    ∙ ap (λ l. before ++ (cond (same_word sought word) l [] ++ lefts)) is
    ∙ ap (λ l. before ++ l) (sym (pass_all sought word tables orders from))

-- ---- pages

pub run_of-append : (first : ℕ) (a b : List ℕ) → run_of first (a ++ b) ≡ run_of first a ++ run_of (first + length a) b
run_of-append first [] b =
    let same : first ≡ first + 0 = omega arith in
    ap (λ n. run_of n b) same
run_of-append first (zero ∷ a) b =
    let same : suc first + length a ≡ first + suc (length a) = omega arith in
    run_of-append (suc first) a b ∙ ap (λ n. run_of (suc first) a ++ run_of n b) same
run_of-append first (suc count ∷ a) b =
    let same : suc first + length a ≡ first + suc (length a) = omega arith in
    ap (λ l. pieces first (suc count) ++ l) (run_of-append (suc first) a b ∙ ap (λ n. run_of (suc first) a ++ run_of n b) same)
    ∙ sym (append_assoc (pieces first (suc count)) (run_of (suc first) a) (run_of (first + suc (length a)) b))

count_before : (word : List ℕ) (counts : List (List ℕ × ℕ)) → AllAfter word (map (λ entry. entry.0) counts) → count_where (same_word word) counts ≡ 0
count_before word [] after = refl
count_before word (entry ∷ counts) after =
    let here : cond (same_word word entry.0) entry.1 0 ≡ 0 = ap (λ b. cond b entry.1 0) (apart_from_less word entry.0 after.0) in
    omega (arith, count_before word counts after.1, sum_by-cons (λ (e : List ℕ × ℕ). cond (same_word word e.0) e.1 0) entry counts)

page_after : (number : ℕ) (word : List ℕ) (counts : List (List ℕ × ℕ)) → AllAfter word (map (λ entry. entry.0) counts) → AllAfter word (words_of_rows (page_rows number counts))
page_after number word [] after = tt
page_after number word (entry ∷ counts) after = (after.0, page_after number word counts after.1)

one_count : (number count whole : ℕ) → 0 < count → whole ≡ count → pieces number count ++ [] ≡ run_of number (whole ∷ [])
one_count number zero whole some is = absurd (omega arith)
one_count number (suc count) whole some is = ap (λ n. run_of number (n ∷ [])) (sym is)

-- the rows of a page have the postings of each word
module _ (number : ℕ) (word : List ℕ) where
  page_run : (counts : List (List ℕ × ℕ)) → IsStrictlySortedBy (slice_cmp nat_cmp) (map (λ entry. entry.0) counts) → AllByRecursion (λ entry. 0 < entry.1) counts
      → postings_of word (page_rows number counts) ≡ run_of number (count_where (same_word word) counts ∷ [])
  page_run [] ordered positive = refl
  page_run (entry ∷ counts) ordered positive =
      by (page_run counts (sorted_tail (slice_cmp nat_cmp) entry.0 (map (λ e. e.0) counts) ordered) positive.1) (same_word word entry.0) refl (sum_by-cons (λ (e : List ℕ × ℕ). cond (same_word word e.0) e.1 0) entry counts)
    where
      after : AllAfter entry.0 (map (λ e. e.0) counts)
      after = sorted_head (slice_cmp nat_cmp) entry.0 (map (λ e. e.0) counts) ordered

      by : postings_of word (page_rows number counts) ≡ run_of number (count_where (same_word word) counts ∷ []) → (b : Bool) → same_word word entry.0 ≡ b
          → count_where (same_word word) (entry ∷ counts) ≡ cond b entry.1 0 + count_where (same_word word) counts
          → cond b (pieces number entry.1) [] ++ postings_of word (page_rows number counts) ≡ run_of number (count_where (same_word word) (entry ∷ counts) ∷ [])
      by others true e whole =
          let rest : AllAfter word (map (λ e. e.0) counts) = subst (λ w. AllAfter w (map (λ e. e.0) counts)) (sym ((bytes_decides word entry.0).0 e)) after in
          ap (λ l. pieces number entry.1 ++ l) (postings_before word (page_rows number counts) (page_after number word counts rest))
          ∙ one_count number entry.1 (count_where (same_word word) (entry ∷ counts)) positive.0 (omega (arith, whole, count_before word counts rest))
      by others false e whole =
          let same : count_where (same_word word) counts ≡ count_where (same_word word) (entry ∷ counts) = omega (arith, whole) in
          others ∙ ap (λ n. run_of number (n ∷ [])) same

  pub page_postings : (counts : List (List ℕ × ℕ)) → AreCounts counts → postings_of word (page_rows number counts) ≡ run_of number (count_meant false word counts ∷ [])
  unfolding count_meant
  page_postings counts sound = page_run counts sound.ordered sound.positive
