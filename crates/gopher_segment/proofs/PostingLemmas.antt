-- What postings count, and the postings of a large count.
use Rattle.std.proofs.Common.{◌≡◌, ℕ, Bool, true, false, zero, suc, ◌+◌, ◌-◌, ◌*◌, ◌/◌, ◌<◌, ◌≤◌, List, [], ◌∷◌, ◌++◌, length, take, drop, get_or, replicate, cond, ◌==◌, refl, ap, ◌∙◌, arith}
use Rattle.std.proofs.lemmas.List.{take_more, take-append-drop}
use Rattle.std.specs.List.{zip}
use Rattle.gopher_segment.specs.Postings.{count_in, pieces}
use Rattle.gopher_bytes.proofs.Zips.{length-zip, get_or-zip}

pub count_in-append : (page : ℕ) (a b : List (ℕ × ℕ)) → count_in page (a ++ b) ≡ count_in page a + count_in page b
count_in-append page [] b = omega arith
count_in-append page (posting ∷ a) b = omega (arith, count_in-append page a b)

-- one more posting of a run
count_in_more : (page : ℕ) (postings : List (ℕ × ℕ)) (i : ℕ) (d : ℕ × ℕ) → i < length postings
    → count_in page (take (i + 1) postings) ≡ count_in page (take i postings) + cond ((get_or postings i d).0 == page) (get_or postings i d).1 0
count_in_more page postings i d within =
    ap (count_in page) (take_more postings i d within)
    ∙ count_in-append page (take i postings) (get_or postings i d ∷ [])
    ∙ omega arith

-- which counts no more than the whole run
pub count_in_part : (page : ℕ) (postings : List (ℕ × ℕ)) (n : ℕ) → count_in page (take n postings) ≤ count_in page postings
count_in_part page postings n =
    omega (arith, count_in-append page (take n postings) (drop n postings), ap (count_in page) (take-append-drop n postings))

-- one more of page numbers beside counts
pub run_step : (pages counts : List ℕ) (i page : ℕ) → length counts ≡ length pages → i < length pages
    → count_in page (take (i + 1) (zip pages counts)) ≡ count_in page (take i (zip pages counts)) + cond (get_or pages i 0 == page) (get_or counts i 0) 0
run_step pages counts i page same within =
    let inside : i < length (zip pages counts) = omega (arith, length-zip pages counts same) in
    count_in_more page (zip pages counts) i (0, 0) inside
    ∙ ap (λ (posting : ℕ × ℕ). count_in page (take i (zip pages counts)) + cond (posting.0 == page) posting.1 0) (get_or-zip pages counts i 0 0 same within)

-- ---- large counts

pub pieces_last : (page count : ℕ) → count ≤ 255 → pieces page count ≡ (page, count) ∷ []
unfolding pieces
pieces_last page count small =
    let none : (count - 1) / 255 ≡ 0 = omega arith in
    let all : count - 255 * 0 ≡ count = omega arith in
    ap (λ n. replicate n (page, 255) ++ (page, count - 255 * n) ∷ []) none ∙ ap (λ n. (page, n) ∷ []) all

pub pieces_more : (page count : ℕ) → 255 < count → pieces page count ≡ (page, 255) ∷ pieces page (count - 255)
unfolding pieces
pieces_more page count large =
    let one : (count - 1) / 255 ≡ suc ((count - 255 - 1) / 255) = omega arith in
    let rest : count - 255 * suc ((count - 255 - 1) / 255) ≡ count - 255 - 255 * ((count - 255 - 1) / 255) = omega arith in
    ap (λ n. replicate n (page, 255) ++ (page, count - 255 * n) ∷ []) one
    ∙ ap (λ n. (page, 255) ∷ (replicate ((count - 255 - 1) / 255) (page, 255) ++ (page, n) ∷ [])) rest

count_replicate : (page n other : ℕ) → count_in other (replicate n (page, 255)) ≡ cond (page == other) (255 * n) 0
count_replicate page zero other = by (page == other)
  where
    by : (t : Bool) → 0 ≡ cond t (255 * 0) 0
    by true = refl
    by false = refl
count_replicate page (suc n) other = by (page == other) (count_replicate page n other)
  where
    by : (t : Bool) → count_in other (replicate n (page, 255)) ≡ cond t (255 * n) 0 → cond t 255 0 + count_in other (replicate n (page, 255)) ≡ cond t (255 * suc n) 0
    by true e = omega (arith, e)
    by false e = omega (arith, e)

-- together they count what the page does
pub count_in-pieces : (page count other : ℕ) → count_in other (pieces page count) ≡ cond (page == other) count 0
unfolding pieces
count_in-pieces page count other =
    count_in-append other (replicate ((count - 1) / 255) (page, 255)) ((page, count - 255 * ((count - 1) / 255)) ∷ [])
    ∙ by (page == other) (count_replicate page ((count - 1) / 255) other)
  where
    by : (t : Bool) → count_in other (replicate ((count - 1) / 255) (page, 255)) ≡ cond t (255 * ((count - 1) / 255)) 0
        → count_in other (replicate ((count - 1) / 255) (page, 255)) + (cond t (count - 255 * ((count - 1) / 255)) 0 + 0) ≡ cond t count 0
    by true e = omega (arith, e)
    by false e = omega (arith, e)
