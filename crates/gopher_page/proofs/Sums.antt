-- Sums of the counts of words.
use Rattle.std.proofs.Common.{◌≡◌, ℕ, zero, suc, ◌+◌, ◌-◌, ◌<◌, ◌≤◌, Bool, true, false, cond, List, [], ◌∷◌, length, map, take, drop, refl, sym, ap, ◌∙◌, arith}
use Rattle.std.proofs.lemmas.List.{length-map}
use Rattle.std.proofs.lemmas.List.Sums.{sum_by-cons}
use Rattle.std.specs.List.{sum}
use Rattle.gopher_page.specs.Counts.{is_meant, word_at, AreMeantWords, count_where, count_meant}

abbrev words_in : List (List ℕ × ℕ) → List (List ℕ)
words_in counts = map (λ entry. entry.0) counts

-- if the words from n on fail the test, they add nothing to a sum
pub nothing_from : (test : List ℕ → Bool) (n : ℕ) (counts : List (List ℕ × ℕ)) → ((k : ℕ) → n ≤ k → k < length counts → test (word_at (words_in counts) k) ≡ false) → count_where test (drop n counts) ≡ 0
nothing_from test zero [] none = refl
nothing_from test zero (entry ∷ counts) none =
    sum_by-cons (λ e. cond (test e.0) e.1 0) entry counts
    ∙ rw (none 0 (omega arith) (omega arith), nothing_from test zero counts (λ k from within. none (suc k) (omega arith) (omega arith)))
nothing_from test (suc n) [] none = refl
nothing_from test (suc n) (entry ∷ counts) none = nothing_from test n counts (λ k from within. none (suc k) (omega arith) (omega arith))

-- if exactly n words from `start` on pass the test, their counts have the sum
pub counts_between : (test : List ℕ → Bool) (counts : List (List ℕ × ℕ)) (start n : ℕ) → ((k : ℕ) → k < start → k < length counts → test (word_at (words_in counts) k) ≡ false) → ((k : ℕ) → start ≤ k → k < start + n → k < length counts → test (word_at (words_in counts) k) ≡ true)
    → ((k : ℕ) → start + n ≤ k → k < length counts → test (word_at (words_in counts) k) ≡ false) → count_where test counts ≡ sum (take n (drop start (map (λ entry. entry.1) counts)))
counts_between test [] zero zero before there after = refl
counts_between test [] zero (suc n) before there after = refl
counts_between test [] (suc start) zero before there after = refl
counts_between test [] (suc start) (suc n) before there after = refl
counts_between test (entry ∷ counts) zero zero before there after = nothing_from test 0 (entry ∷ counts) (λ k past within. after k (omega arith) within)
counts_between test (entry ∷ counts) zero (suc n) before there after =
    let here : cond (test entry.0) entry.1 0 ≡ entry.1 = ap (λ b. cond b entry.1 0) (there 0 (omega arith) (omega arith) (omega arith)) in
    let rest = counts_between test counts 0 n (λ k less within. absurd (omega (arith, less))) (λ k past less within. there (suc k) (omega arith) (omega arith) (omega arith)) (λ k past within. after (suc k) (omega arith) (omega arith)) in
    omega (
      arith,
      sum_by-cons (λ e. cond (test e.0) e.1 0) entry counts,
      here,
      rest,
      sum_by-cons (λ x. x) entry.1 (take n (map (λ e. e.1) counts)),
    )
counts_between test (entry ∷ counts) (suc start) n before there after =
    let here : cond (test entry.0) entry.1 0 ≡ 0 = ap (λ b. cond b entry.1 0) (before 0 (omega arith) (omega arith)) in
    let rest = counts_between test counts start n (λ k less within. before (suc k) (omega arith) (omega arith)) (λ k past less within. there (suc k) (omega arith) (omega arith) (omega arith)) (λ k past within. after (suc k) (omega arith) (omega arith)) in
    omega (arith, sum_by-cons (λ e. cond (test e.0) e.1 0) entry counts, here, rest)

-- the number of occurrences is the sum of the counts of the words that are meant
pub sum_meant : (is_prefix : Bool) (sought : List ℕ) (counts : List (List ℕ × ℕ)) (start end : ℕ) → AreMeantWords (words_in counts) is_prefix sought start end
    → sum (take (end - start) (drop start (map (λ entry. entry.1) counts))) ≡ count_meant is_prefix sought counts
unfolding count_meant
sum_meant is_prefix sought counts start end are =
    let size : length (words_in counts) ≡ length counts = length-map counts (λ entry. entry.0) in
    sym (
    counts_between (is_meant is_prefix sought) counts start (end - start)
    (λ k less within. are.before k less)
    (λ k past less within. are.meant k past (omega (arith, less, are.forward)))
    (λ k past within. are.others k (omega (arith, past, are.forward)) (omega (arith, within, size)))
    )
