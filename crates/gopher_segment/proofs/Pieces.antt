-- The postings of a page, and of consecutive pages.
use Rattle.std.proofs.Common.{◌≡◌, ◌∙◌, ℕ, zero, suc, ◌+◌, ◌-◌, ◌*◌, ◌/◌, ◌≤◌, ◌<◌, min, List, [], ◌∷◌, ◌++◌, length, replicate, refl, sym, ap, subst, arith, false, true, cond, get_or, ◌==◌}
use Rattle.std.proofs.lemmas.Bool.{eq-eqb, ne_eqb}
use Rattle.std.specs.List.{AllByRecursion}
use Rattle.gopher_segment.specs.Postings.{count_in, pieces, run_of}
use Rattle.gopher_segment.proofs.Each.{all_both, all_weaker}
use Rattle.gopher_segment.proofs.PostingLemmas.{count_in-append, count_in-pieces}

-- the first of the postings of a page, and that the others are of the same page
pub record BeginsPage (number count : ℕ) (postings : List (ℕ × ℕ)) : Type 0 where
  pub others : List (ℕ × ℕ)
  pub is : postings ≡ (number, min count 255) ∷ others
  pub same : AllByRecursion (λ posting. posting.0 ≡ number) others

pub pieces_begin : (number count : ℕ) → 0 < count → BeginsPage number count (pieces number count)
unfolding pieces
pieces_begin number count some = by ((count - 1) / 255) refl
  where
    all_same : (n last : ℕ) → AllByRecursion (λ (posting : ℕ × ℕ). posting.0 ≡ number) (replicate n (number, 255) ++ (number, last) ∷ [])
    all_same zero last = (refl, tt)
    all_same (suc n) last = (refl, all_same n last)

    by : (q : ℕ) → (count - 1) / 255 ≡ q → BeginsPage number count (replicate q (number, 255) ++ (number, count - 255 * q) ∷ [])
    by zero e =
        let small : count - 255 * 0 ≡ min count 255 = omega (arith, e) in
        record { others = []; is = ap (λ n. (number, n) ∷ []) small; same = tt }
    by (suc q) e =
        let large : 255 ≡ min count 255 = omega (arith, e) in
        record { others = replicate q (number, 255) ++ (number, count - 255 * suc q) ∷ []; is = ap (λ n. (number, n) ∷ replicate q (number, 255) ++ (number, count - 255 * suc q) ∷ []) large; same = all_same q (count - 255 * suc q) }

abbrev pub Within : ℕ → ℕ → ℕ × ℕ → Type 0
Within first size posting = (first ≤ posting.0) × (posting.0 < first + size)

-- the numbers are those of the pages
pub run_within : (number : ℕ) (counts : List ℕ) → AllByRecursion (λ (posting : ℕ × ℕ). (number ≤ posting.0) × (posting.0 < number + length counts)) (run_of number counts)
run_within number [] = tt
run_within number (zero ∷ counts) =
    all_weaker (Within (suc number) (length counts)) (Within number (length (zero ∷ counts))) (λ p inside. (omega (arith, inside.0), omega (arith, inside.1))) (run_of (suc number) counts) (run_within (suc number) counts)
run_within number (suc count ∷ counts) =
    let here : ℕ × ℕ → Type 0 = Within number (length (suc count ∷ counts)) in
    let begins = pieces_begin number (suc count) (omega arith) in
    let first : AllByRecursion here (pieces number (suc count)) =
    subst (AllByRecursion here) (sym begins.is) ((omega arith, omega arith), all_weaker (λ (p : ℕ × ℕ). p.0 ≡ number) here (λ p same. (omega (arith, same), omega (arith, same))) begins.others begins.same)
    in
    all_both here (pieces number (suc count)) (run_of (suc number) counts) first
    (all_weaker (Within (suc number) (length counts)) here (λ p inside. (omega (arith, inside.0), omega (arith, inside.1))) (run_of (suc number) counts) (run_within (suc number) counts))

-- ---- what they count

count_before : (page number : ℕ) (counts : List ℕ) → page < number → count_in page (run_of number counts) ≡ 0
count_before page number [] less = refl
count_before page number (zero ∷ counts) less = count_before page (suc number) counts (omega arith)
count_before page number (suc count ∷ counts) less =
    let apart : (number == page) ≡ false = ne_eqb number page (λ e. omega arith) in
    let none : cond (number == page) (suc count) 0 ≡ 0 = ap (λ b. cond b (suc count) 0) apart in
    omega (arith, count_in-append page (pieces number (suc count)) (run_of (suc number) counts), count_in-pieces number (suc count) page, none, count_before page (suc number) counts (omega arith))

-- together the postings of a page count what it does
pub count_in-run : (number : ℕ) (counts : List ℕ) (k : ℕ) → k < length counts → count_in (number + k) (run_of number counts) ≡ get_or counts k 0
count_in-run number [] k within = absurd (omega (arith, within))
count_in-run number (zero ∷ counts) zero within = count_before (number + 0) (suc number) counts (omega arith)
count_in-run number (zero ∷ counts) (suc k) within =
    let next : number + suc k ≡ suc number + k = omega arith in
    ap (λ page. count_in page (run_of (suc number) counts)) next ∙ count_in-run (suc number) counts k (omega (arith, within))
count_in-run number (suc count ∷ counts) zero within =
    let same : (number == number + 0) ≡ true = eq-eqb number (number + 0) (omega arith) in
    let all : cond (number == number + 0) (suc count) 0 ≡ suc count = ap (λ b. cond b (suc count) 0) same in
    omega (arith, count_in-append (number + 0) (pieces number (suc count)) (run_of (suc number) counts), count_in-pieces number (suc count) (number + 0), all, count_before (number + 0) (suc number) counts (omega arith))
count_in-run number (suc count ∷ counts) (suc k) within =
    let next : number + suc k ≡ suc number + k = omega arith in
    let apart : (number == number + suc k) ≡ false = ne_eqb number (number + suc k) (λ e. omega arith) in
    let none : cond (number == number + suc k) (suc count) 0 ≡ 0 = ap (λ b. cond b (suc count) 0) apart in
    let rest : count_in (number + suc k) (run_of (suc number) counts) ≡ get_or counts k 0 = ap (λ page. count_in page (run_of (suc number) counts)) next ∙ count_in-run (suc number) counts k (omega (arith, within)) in
    omega (arith, count_in-append (number + suc k) (pieces number (suc count)) (run_of (suc number) counts), count_in-pieces number (suc count) (number + suc k), none, rest)
