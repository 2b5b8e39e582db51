-- The lengths of the runs of words in byte order are their counts.
use Rattle.std.proofs.Common.{◌≡◌, ℕ, ◌+◌, ◌-◌, ◌<◌, ◌≤◌, Bool, true, false, cond, ◌||◌, List, [], ◌∷◌, length, map, drop, get_or, count_by, sum_by, refl, sym, ap, subst, ◌∙◌, add-zero, arith}
use Rattle.std.proofs.lemmas.List.{drop_more}
use Rattle.std.proofs.lemmas.List.Sums.{sum_by-cons}
use Rattle.std.proofs.lemmas.List.Kept.{IsStrictlySortedBy-dedup}
use Rattle.std.specs.List.{list_any, dedup_from, AllByRecursion}
use Rattle.std.specs.List.Sorted.{IsStrictlySortedBy, IsSorted, IsPermutation}
use Rattle.std.proofs.lemmas.List.Sorted.{sum_by-IsPermutation}
use Rattle.std.specs.declared.cmp.Ordering.{Ordering}
use Rattle.std.specs.declared.cmp.Ordering.TheVariants.{Less, Equal, Greater}
use Rattle.std.specs.Cmp.Lexicographic.{bytes_decides, nat_list_cmp_total, nat_list_eq_equiv, texts_ties}
use Rattle.gopher_page.specs.Words.{same_word}
use Rattle.gopher_page.specs.Counts.{counts_of, sorted_words, joined_run, run_lengths}
use Rattle.gopher_page.specs.Packed.{AreCounts}
use Rattle.gopher_page.proofs.SortedInserts.{flipped, all_after, sorted_inserts}
use Rattle.gopher_page.proofs.AddedWords.{compare, equal_words, not_same, absent_along, with_values, positive_counts}

-- ---- runs

itself : (word : List ℕ) → same_word word word ≡ true
itself word = (bytes_decides word word).1 refl

-- joining a run with one more of its word
joined_twice : (word : List ℕ) (n : ℕ) (runs : List (List ℕ × ℕ)) → joined_run word n (joined_run word 1 runs) ≡ joined_run word (n + 1) runs
joined_twice word n [] = ap (λ t. cond t ((word, n + 1) ∷ []) ((word, n) ∷ (word, 1) ∷ [])) (itself word)
joined_twice word n (run ∷ runs) = by (same_word word run.0)
  where
    by : (t : Bool) → joined_run word n (cond t ((word, 1 + run.1) ∷ runs) ((word, 1) ∷ run ∷ runs)) ≡ cond t ((word, (n + 1) + run.1) ∷ runs) ((word, n + 1) ∷ run ∷ runs)
    by true =
        let same : n + (1 + run.1) ≡ (n + 1) + run.1 = omega arith in
        ap (λ t. cond t ((word, n + (1 + run.1)) ∷ runs) ((word, n) ∷ (word, 1 + run.1) ∷ runs)) (itself word) ∙ ap (λ k. (word, k) ∷ runs) same
    by false = ap (λ t. cond t ((word, n + 1) ∷ run ∷ runs) ((word, n) ∷ (word, 1) ∷ run ∷ runs)) (itself word)

-- a run of another word stays apart
joined_other : (word : List ℕ) (n : ℕ) (other : List ℕ) (m : ℕ) (runs : List (List ℕ × ℕ)) → same_word word other ≡ false
    → joined_run word n (joined_run other m runs) ≡ (word, n) ∷ joined_run other m runs
joined_other word n other m [] apart = ap (λ t. cond t ((word, n + m) ∷ []) ((word, n) ∷ (other, m) ∷ [])) apart
joined_other word n other m (run ∷ runs) apart = by (same_word other run.0)
  where
    by : (t : Bool) → joined_run word n (cond t ((other, m + run.1) ∷ runs) ((other, m) ∷ run ∷ runs)) ≡ (word, n) ∷ cond t ((other, m + run.1) ∷ runs) ((other, m) ∷ run ∷ runs)
    by true = ap (λ t. cond t ((word, n + (m + run.1)) ∷ runs) ((word, n) ∷ (other, m + run.1) ∷ runs)) apart
    by false = ap (λ t. cond t ((word, n + m) ∷ run ∷ runs) ((word, n) ∷ (other, m) ∷ run ∷ runs)) apart

-- the words from `start` up to, not including, `end` are equal
abbrev pub IsOneWord : List (List ℕ) → ℕ → ℕ → Type 0
IsOneWord words start end = run_lengths (drop start words) ≡ joined_run (get_or words start []) (end - start) (run_lengths (drop end words))

pub one_word : (words : List (List ℕ)) (start : ℕ) → start < length words → IsOneWord words start (start + 1)
one_word words start within =
    let one : (start + 1) - start ≡ 1 = omega arith in
    ap run_lengths (drop_more words start [] within) ∙ ap (λ n. joined_run (get_or words start []) n (run_lengths (drop (start + 1) words))) (sym one)

pub one_word_more : (words : List (List ℕ)) (start end : ℕ) → start < end → end < length words → same_word (get_or words end []) (get_or words start []) ≡ true → IsOneWord words start end → IsOneWord words start (end + 1)
one_word_more words start end after within same so_far =
    let word : List ℕ = get_or words start [] in
    let rest : List (List ℕ × ℕ) = run_lengths (drop (end + 1) words) in
    let is : get_or words end [] ≡ word = (bytes_decides (get_or words end []) word).0 same in
    let more : (end - start) + 1 ≡ (end + 1) - start = omega arith in
    so_far
    ∙ ap (λ l. joined_run word (end - start) (run_lengths l)) (drop_more words end [] within)
    ∙ ap (λ w. joined_run word (end - start) (joined_run w 1 rest)) is
    ∙ joined_twice word (end - start) rest
    ∙ ap (λ n. joined_run word n rest) more

pub one_word_other : (words : List (List ℕ)) (start end : ℕ) → end < length words → same_word (get_or words end []) (get_or words start []) ≡ false → IsOneWord words start end
    → run_lengths (drop start words) ≡ (get_or words start [], end - start) ∷ run_lengths (drop end words)
one_word_other words start end within apart so_far =
    let word : List ℕ = get_or words start [] in
    let other : List ℕ = get_or words end [] in
    let cut : run_lengths (drop end words) ≡ joined_run other 1 (run_lengths (drop (end + 1) words)) = ap run_lengths (drop_more words end [] within) in
    so_far ∙ ap (joined_run word (end - start)) cut ∙ joined_other word (end - start) other 1 _ (nat_list_eq_equiv.symm word other ∙ apart) ∙ ap (λ l. (word, end - start) ∷ l) (sym cut)

-- ---- words in order

abbrev keys : List (List ℕ × ℕ) → List (List ℕ)
keys runs = map (λ run. run.0) runs

-- the first run is of the first word
first_run : (word : List ℕ) (n : ℕ) (runs : List (List ℕ × ℕ)) → (m : ℕ) × (more : List (List ℕ × ℕ)) × (joined_run word n runs ≡ (word, m) ∷ more)
first_run word n [] = (n, [], refl)
first_run word n (run ∷ runs) = by (same_word word run.0)
  where
    by : (t : Bool) → (m : ℕ) × (more : List (List ℕ × ℕ)) × (cond t ((word, n + run.1) ∷ runs) ((word, n) ∷ run ∷ runs) ≡ (word, m) ∷ more)
    by true = (n + run.1, runs, refl)
    by false = (n, run ∷ runs, refl)

-- the words of the runs are the words without repetitions
keys_from : (word : List ℕ) (words : List (List ℕ)) → keys (run_lengths (word ∷ words)) ≡ dedup_from same_word word words
keys_from word [] = refl
keys_from word (next ∷ words) = by (same_word next word) refl (sym (ap keys first.2) ∙ keys_from next words)
  where
    first : (m : ℕ) × (more : List (List ℕ × ℕ)) × (run_lengths (next ∷ words) ≡ (next, m) ∷ more)
    first = first_run next 1 (run_lengths words)

    shown : (b : Bool) → same_word next word ≡ b → keys (run_lengths (word ∷ next ∷ words)) ≡ keys (cond b ((word, 1 + first.0) ∷ first.1) ((word, 1) ∷ (next, first.0) ∷ first.1))
    shown b e =
        ap (λ runs. keys (joined_run word 1 runs)) first.2
        ∙ ap (λ t. keys (cond t ((word, 1 + first.0) ∷ first.1) ((word, 1) ∷ (next, first.0) ∷ first.1))) (nat_list_eq_equiv.symm word next ∙ e)

    by : (b : Bool) → same_word next word ≡ b → next ∷ keys first.1 ≡ dedup_from same_word next words → keys (run_lengths (word ∷ next ∷ words)) ≡ cond b (dedup_from same_word word words) (word ∷ dedup_from same_word next words)
    by true e rest = shown true e ∙ subst (λ w. w ∷ keys first.1 ≡ dedup_from same_word w words) ((bytes_decides next word).0 e) rest
    by false e rest = shown false e ∙ ap (λ l. word ∷ l) rest

pub ordered_lengths : (words : List (List ℕ)) → IsSorted compare words → IsStrictlySortedBy compare (keys (run_lengths words))
ordered_lengths [] sorted = sorted_inserts nat_list_cmp_total []
ordered_lengths (word ∷ words) sorted =
    subst (IsStrictlySortedBy compare) (sym (keys_from word words)) (IsStrictlySortedBy-dedup nat_list_cmp_total {E = same_word} texts_ties (word ∷ words) sorted)

-- ---- sizes

size_joined : (word : List ℕ) (n : ℕ) (runs : List (List ℕ × ℕ)) → sum_by (λ run. run.1) (joined_run word n runs) ≡ n + sum_by (λ run. run.1) runs
size_joined word n [] = sum_by-cons {X = List ℕ × ℕ} (λ run. run.1) (word, n) []
size_joined word n (run ∷ runs) = by (same_word word run.0)
  where
    by : (t : Bool) → sum_by (λ r. r.1) (cond t ((word, n + run.1) ∷ runs) ((word, n) ∷ run ∷ runs)) ≡ n + sum_by (λ r. r.1) (run ∷ runs)
    by true = omega (arith, sum_by-cons {X = List ℕ × ℕ} (λ r. r.1) (word, n + run.1) runs, sum_by-cons {X = List ℕ × ℕ} (λ r. r.1) run runs)
    by false = sum_by-cons {X = List ℕ × ℕ} (λ r. r.1) (word, n) (run ∷ runs)

pub size_lengths : (words : List (List ℕ)) → sum_by (λ run. run.1) (run_lengths words) ≡ length words
size_lengths [] = refl
size_lengths (word ∷ words) = omega (arith, size_joined word 1 (run_lengths words), size_lengths words)

positive_joined : (word : List ℕ) (n : ℕ) (runs : List (List ℕ × ℕ)) → 0 < n → AllByRecursion (λ run. 0 < run.1) runs → AllByRecursion (λ run. 0 < run.1) (joined_run word n runs)
positive_joined word n [] some all = (some, tt)
positive_joined word n (run ∷ runs) some all = by (same_word word run.0)
  where
    by : (t : Bool) → AllByRecursion (λ r. 0 < r.1) (cond t ((word, n + run.1) ∷ runs) ((word, n) ∷ run ∷ runs))
    by true = (omega arith, all.1)
    by false = (some, all)

pub positive_lengths : (words : List (List ℕ)) → AllByRecursion (λ run. 0 < run.1) (run_lengths words)
positive_lengths [] = tt
positive_lengths (word ∷ words) = positive_joined word 1 (run_lengths words) (omega arith) (positive_lengths words)

pub are_counts : (words : List (List ℕ)) → IsSorted compare words → length words ≤ 1048576 → AreCounts (run_lengths words)
are_counts words sorted few = record {
  ordered = ordered_lengths words sorted;
  positive = positive_lengths words;
  few = omega (arith, size_lengths words);
}

-- ---- how often a word is counted

abbrev amount : List ℕ → List (List ℕ × ℕ) → ℕ
amount sought runs = sum_by (λ run. cond (same_word sought run.0) run.1 0) runs

amount-cons : (sought : List ℕ) (run : List ℕ × ℕ) (runs : List (List ℕ × ℕ)) → amount sought (run ∷ runs) ≡ cond (same_word sought run.0) run.1 0 + amount sought runs
amount-cons sought run runs = sum_by-cons {X = List ℕ × ℕ} (λ r. cond (same_word sought r.0) r.1 0) run runs

both_parts : (t : Bool) (n m : ℕ) → cond t (n + m) 0 ≡ cond t n 0 + cond t m 0
both_parts true n m = refl
both_parts false n m = refl

amount_joined : (sought word : List ℕ) (n : ℕ) (runs : List (List ℕ × ℕ)) → amount sought (joined_run word n runs) ≡ cond (same_word sought word) n 0 + amount sought runs
amount_joined sought word n [] = amount-cons sought (word, n) []
amount_joined sought word n (run ∷ runs) = by (same_word word run.0) refl
  where
    by : (t : Bool) → same_word word run.0 ≡ t → amount sought (cond t ((word, n + run.1) ∷ runs) ((word, n) ∷ run ∷ runs)) ≡ cond (same_word sought word) n 0 + amount sought (run ∷ runs)
    by true e =
        let here : cond (same_word sought word) run.1 0 ≡ cond (same_word sought run.0) run.1 0 = ap (λ w. cond (same_word sought w) run.1 0) ((bytes_decides word run.0).0 e) in
        omega (arith, here, both_parts (same_word sought word) n run.1, amount-cons sought (word, n + run.1) runs, amount-cons sought run runs)
    by false e = amount-cons sought (word, n) (run ∷ runs)

amount_lengths : (sought : List ℕ) (words : List (List ℕ)) → amount sought (run_lengths words) ≡ count_by (same_word sought) words
amount_lengths sought [] = refl
amount_lengths sought (word ∷ words) =
    amount_joined sought word 1 (run_lengths words) ∙ ap (λ n. cond (same_word sought word) 1 0 + n) (amount_lengths sought words)
    ∙ sym (sum_by-cons (λ w. cond (same_word sought w) 1 0) word words)

-- a word before all others isn't among them
amount_after : (word : List ℕ) (runs : List (List ℕ × ℕ)) → AllByRecursion (λ y. compare word y ≡ Less) (keys runs) → amount word runs ≡ 0
amount_after word [] all = refl
amount_after word (run ∷ runs) all =
    amount-cons word run runs ∙ ap (λ t. cond t run.1 0 + amount word runs) (not_same word run.0 Less all.0 refl) ∙ ap (λ n. 0 + n) (amount_after word runs all.1)

amount_values : (sought : List ℕ) (value : List ℕ → ℕ) (words : List (List ℕ)) → IsStrictlySortedBy compare words → amount sought (with_values value words) ≡ cond (list_any (same_word sought) words) (value sought) 0
unfolding IsStrictlySortedBy
amount_values sought value [] sorted = refl
amount_values sought value (word ∷ words) sorted = amount-cons sought (word, value word) (with_values value words) ∙ by (same_word sought word) refl (amount_values sought value words sorted.1)
  where
    later : (all : List (List ℕ)) → AllByRecursion (λ y. compare word y ≡ Less) all → AllByRecursion (λ y. compare word y ≡ Less) (keys (with_values value all))
    later [] rest = tt
    later (next ∷ all) rest = (rest.0, later all rest.1)

    by : (t : Bool) → same_word sought word ≡ t → amount sought (with_values value words) ≡ cond (list_any (same_word sought) words) (value sought) 0
        → cond (same_word sought word) (value word) 0 + amount sought (with_values value words) ≡ cond (same_word sought word || list_any (same_word sought) words) (value sought) 0
    by true e rest =
        let is : sought ≡ word = (bytes_decides sought word).0 e in
        let none : amount sought (with_values value words) ≡ 0 = ap (λ w. amount w (with_values value words)) is ∙ amount_after word (with_values value words) (later words sorted.0) in
        ap (λ t. cond t (value word) 0 + amount sought (with_values value words)) e ∙ ap (λ n. value word + n) none ∙ add-zero (value word) ∙ ap value (sym is)
        ∙ sym (ap (λ t. cond (t || list_any (same_word sought) words) (value sought) 0) e)
    by false e rest =
        ap (λ t. cond t (value word) 0 + amount sought (with_values value words)) e ∙ ap (λ n. 0 + n) rest
        ∙ nothing_more _ ∙ sym (ap (λ t. cond (t || list_any (same_word sought) words) (value sought) 0) e)
      where
        nothing_more : (n : ℕ) → 0 + n ≡ n
        nothing_more n = omega arith

amount_counts : (sought : List ℕ) (words : List (List ℕ)) → amount sought (counts_of words) ≡ count_by (same_word sought) words
unfolding counts_of
amount_counts sought words = amount_values sought (λ word. count_by (same_word word) words) (sorted_words words) (sorted_inserts nat_list_cmp_total words) ∙ by (list_any (same_word sought) (sorted_words words)) refl
  where
    by : (t : Bool) → list_any (same_word sought) (sorted_words words) ≡ t → cond t (count_by (same_word sought) words) 0 ≡ count_by (same_word sought) words
    by true e = refl
    by false e = sym (absent_along sought [] words e).1

-- ---- lists with equal counts are equal

absent_first : (first run : List ℕ × ℕ) (runs : List (List ℕ × ℕ)) → compare first.0 run.0 ≡ Less → AllByRecursion (λ y. compare run.0 y ≡ Less) (keys runs) → amount first.0 (run ∷ runs) ≡ 0
absent_first first run runs less after = amount_after first.0 (run ∷ runs) (less, all_after nat_list_cmp_total first.0 run.0 (keys runs) less after)

present_first : (run : List ℕ × ℕ) (runs : List (List ℕ × ℕ)) → amount run.0 (run ∷ runs) ≡ run.1 + amount run.0 runs
present_first run runs = amount-cons run.0 run runs ∙ ap (λ t. cond t run.1 0 + amount run.0 runs) (itself run.0)

pub counted_alike : (left right : List (List ℕ × ℕ)) → IsStrictlySortedBy compare (keys left) → IsStrictlySortedBy compare (keys right)
    → AllByRecursion (λ run. 0 < run.1) left → AllByRecursion (λ run. 0 < run.1) right → ((sought : List ℕ) → amount sought left ≡ amount sought right) → left ≡ right
unfolding IsStrictlySortedBy
counted_alike [] [] a b p q same = refl
counted_alike [] (run ∷ runs) a b p q same = absurd (omega (arith, same run.0, present_first run runs, q.0))
counted_alike (run ∷ runs) [] a b p q same = absurd (omega (arith, same run.0, present_first run runs, p.0))
counted_alike (first ∷ left) (run ∷ right) a b p q same = by (compare first.0 run.0) refl (counted_alike left right a.1 b.1 p.1 q.1)
  where
    by : (r : Ordering) → compare first.0 run.0 ≡ r → (((sought : List ℕ) → amount sought left ≡ amount sought right) → left ≡ right) → first ∷ left ≡ run ∷ right
    by Less e rest = absurd (omega (arith, same first.0, present_first first left, absent_first first run right e b.0, p.0))
    by Greater e rest = absurd (omega (arith, same run.0, present_first run right, absent_first run first left (flipped nat_list_cmp_total first.0 run.0 e) a.0, q.0))
    by Equal e rest =
        let word : first.0 ≡ run.0 = equal_words first.0 run.0 e in
        let moved : amount first.0 (run ∷ right) ≡ amount run.0 (run ∷ right) = ap (λ w. amount w (run ∷ right)) word in
        let count : first.1 ≡ run.1 =
        omega (arith, same first.0, moved, present_first first left, present_first run right, amount_after first.0 left a.0, amount_after run.0 right b.0)
        in
        let shown : (sought : List ℕ) → cond (same_word sought first.0) first.1 0 ≡ cond (same_word sought run.0) run.1 0 = λ sought i. cond (same_word sought (word i)) (count i) 0 in
        let others : (sought : List ℕ) → amount sought left ≡ amount sought right =
        λ sought. omega (arith, same sought, shown sought, amount-cons sought first left, amount-cons sought run right)
        in
        λ i. (word i, count i) ∷ rest others i

-- the runs of words in order count them, and count the same words in any order
pub counted_in_order : (sorted words : List (List ℕ)) → IsSorted compare sorted → ((sought : List ℕ) → count_by (same_word sought) sorted ≡ count_by (same_word sought) words) → run_lengths sorted ≡ counts_of words
unfolding counts_of
counted_in_order sorted words order same =
    counted_alike (run_lengths sorted) (counts_of words) (ordered_lengths sorted order) ordered (positive_lengths sorted) (positive_counts words)
    (λ sought. amount_lengths sought sorted ∙ same sought ∙ sym (amount_counts sought words))
  where
    key_of : (value : List ℕ → ℕ) (some : List (List ℕ)) → keys (with_values value some) ≡ some
    key_of value [] = refl
    key_of value (word ∷ some) = ap (λ l. word ∷ l) (key_of value some)

    ordered : IsStrictlySortedBy compare (keys (counts_of words))
    ordered = subst (IsStrictlySortedBy compare) (sym (key_of (λ word. count_by (same_word word) words) (sorted_words words))) (sorted_inserts nat_list_cmp_total words)

-- ---- words that were sorted

pub counted_sorted : (words sorted : List (List ℕ)) → IsPermutation words sorted → IsSorted compare sorted → counts_of sorted ≡ counts_of words
counted_sorted words sorted moved order =
    sym (counted_in_order sorted sorted order (λ sought. refl))
    ∙ counted_in_order sorted words order (λ sought. sum_by-IsPermutation (λ word. cond (same_word sought word) 1 0) words sorted moved)
