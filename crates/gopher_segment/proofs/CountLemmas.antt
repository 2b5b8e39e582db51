-- What rows count, and in which pages, follows from their postings of each word.
use Rattle.std.proofs.Common.{◌≡◌, ℕ, Bool, true, false, not, zero, suc, ◌+◌, ◌<◌, ◌≤◌, List, [], ◌∷◌, cond, length, map, get_or, refl, sym, ap, subst, ◌∙◌, arith}
use Rattle.std.proofs.lemmas.List.{length-map}
use Rattle.std.proofs.lemmas.List.Filters.{length-filter_both}
use Rattle.std.proofs.lemmas.List.Sums.{sum_by-cons, sum_by-le-sum_by}
use Rattle.std.specs.List.{AllByRecursion, filter}
use Rattle.std.specs.Cmp.Lexicographic.{bytes_decides}
use Rattle.gopher_page.specs.Words.{same_word}
use Rattle.gopher_page.specs.Counts.{count_where, count_meant}
use Rattle.gopher_page.specs.Page.{PageData}
use Rattle.gopher_segment.specs.Postings.{AreWithin, count_in, run_of}
use Rattle.gopher_segment.specs.Rows.{postings_where, postings_of}
use Rattle.gopher_segment.specs.Segment.{meant_counts}
use Rattle.gopher_segment.specs.SegmentRows.{AreSmall, Tell}
use Rattle.gopher_segment.proofs.Each.{all_left, all_right, all_both}
use Rattle.gopher_segment.proofs.PostingLemmas.{count_in-append}
use Rattle.gopher_segment.proofs.Pieces.{count_in-run, run_within}

abbrev Entries : Type 0
Entries = List (List ℕ × ℕ)

at_most : (b : Bool) (n : ℕ) → cond b n 0 ≤ n
at_most true n = omega arith
at_most false n = omega arith

-- ---- words that are counted alike are counted alike by each test

-- the entries of other words
abbrev others : List ℕ → Entries → Entries
others word entries = filter (λ entry. not (same_word word entry.0)) entries

both : (b : Bool) (n m : ℕ) → cond b (n + m) 0 ≡ cond b n 0 + cond b m 0
both true n m = refl
both false n m = omega arith

split : (test : List ℕ → Bool) (word : List ℕ) (entries : Entries) → count_where test entries ≡ cond (test word) (count_where (same_word word) entries) 0 + count_where test (others word entries)
split test word [] = none (test word)
  where
    none : (b : Bool) → 0 ≡ cond b 0 0 + 0
    none true = omega arith
    none false = omega arith
split test word (entry ∷ entries) = by (split test word entries) (same_word word entry.0) refl (sum_by-cons (λ (e : List ℕ × ℕ). cond (same_word word e.0) e.1 0) entry entries)
  where
    all : count_where test (entry ∷ entries) ≡ cond (test entry.0) entry.1 0 + count_where test entries
    all = sum_by-cons (λ (e : List ℕ × ℕ). cond (test e.0) e.1 0) entry entries

    by : count_where test entries ≡ cond (test word) (count_where (same_word word) entries) 0 + count_where test (others word entries) → (b : Bool) → same_word word entry.0 ≡ b → count_where (same_word word) (entry ∷ entries) ≡ cond b entry.1 0 + count_where (same_word word) entries
        → count_where test (entry ∷ entries) ≡ cond (test word) (count_where (same_word word) (entry ∷ entries)) 0 + count_where test (cond (not b) (entry ∷ others word entries) (others word entries))
    by rest true e own =
        let here : cond (test entry.0) entry.1 0 ≡ cond (test word) entry.1 0 = ap (λ w. cond (test w) entry.1 0) (sym ((bytes_decides word entry.0).0 e)) in
        omega (arith, all, here, ap (λ n. cond (test word) n 0) own ∙ both (test word) entry.1 (count_where (same_word word) entries), rest)
    by rest false e own =
        let same : count_where (same_word word) (entry ∷ entries) ≡ count_where (same_word word) entries = omega (arith, own) in
        omega (arith, all, ap (λ n. cond (test word) n 0) same, sum_by-cons (λ (e : List ℕ × ℕ). cond (test e.0) e.1 0) entry (others word entries), rest)

nothing : (entries : Entries) → ((word : List ℕ) → count_where (same_word word) entries ≡ 0) → (test : List ℕ → Bool) → count_where test entries ≡ 0
nothing [] none test = refl
nothing (entry ∷ entries) none test =
    let here : cond (same_word entry.0 entry.0) entry.1 0 ≡ entry.1 = ap (λ b. cond b entry.1 0) ((bytes_decides entry.0 entry.0).1 refl) in
    let own = sum_by-cons (λ (e : List ℕ × ℕ). cond (same_word entry.0 e.0) e.1 0) entry entries in
    let rest = nothing entries (λ word. omega (arith, none word, sum_by-cons (λ (e : List ℕ × ℕ). cond (same_word word e.0) e.1 0) entry entries)) test in
    omega (arith, none entry.0, here, own, rest, at_most (test entry.0) entry.1, sum_by-cons (λ (e : List ℕ × ℕ). cond (test e.0) e.1 0) entry entries)

counted_alike : (n : ℕ) (a b : Entries) → length a ≤ n → ((word : List ℕ) → count_where (same_word word) a ≡ count_where (same_word word) b) → (test : List ℕ → Bool) → count_where test a ≡ count_where test b
counted_alike n [] b short same test = sym (nothing b (λ word. sym (same word)) test)
counted_alike zero (entry ∷ a) b short same test = absurd (omega (arith, short))
counted_alike (suc n) (entry ∷ a) b short same test =
    let word : List ℕ = entry.0 in
    let left : others word (entry ∷ a) ≡ others word a = ap (λ t. cond (not t) (entry ∷ others word a) (others word a)) ((bytes_decides word word).1 refl) in
    let fewer = length-filter_both (λ (e : List ℕ × ℕ). not (same_word word e.0)) (λ (e : List ℕ × ℕ). not (not (same_word word e.0))) (λ e. refl) a in
    let rest = counted_alike n (others word (entry ∷ a)) (others word b) (omega (arith, ap length left, fewer, short))
    (λ w. omega (arith, same w, ap (λ m. cond (same_word w word) m 0) (same word), split (same_word w) word (entry ∷ a), split (same_word w) word b)) test in
    omega (arith, split test word (entry ∷ a), split test word b, ap (λ m. cond (test word) m 0) (same word), rest)

-- ---- rows

as_entries : (test : List ℕ → Bool) (page : ℕ) (rows : List (List ℕ × List (ℕ × ℕ))) → count_in page (postings_where test rows) ≡ count_where test (map (λ row. (row.0, count_in page row.1)) rows)
as_entries test page [] = refl
as_entries test page (row ∷ rows) =
    omega (
      arith,
      as_entries test page rows,
      sum_by-cons (λ (e : List ℕ × ℕ). cond (test e.0) e.1 0) (row.0, count_in page row.1) (map (λ (r : List ℕ × List (ℕ × ℕ)). (r.0, count_in page r.1)) rows),
      count_in-append page (cond (test row.0) row.1 []) (postings_where test rows),
      of (test row.0),
    )
  where
    of : (b : Bool) → count_in page (cond b row.1 []) ≡ cond b (count_in page row.1) 0
    of true = refl
    of false = refl

counts_at : (f : Entries → ℕ) (pages : List PageData) (k : ℕ) → k < length pages → get_or (map (λ page. f page.counts) pages) k 0 ≡ f (get_or (map (λ page. page.counts) pages) k [])
counts_at f [] k within = absurd (omega (arith, within))
counts_at f (page ∷ pages) zero within = refl
counts_at f (page ∷ pages) (suc k) within = counts_at f pages k (omega (arith, within))

-- rows count in each page what the page counts
pub counts_of_page : (first : ℕ) (pages : List PageData) (rows : List (List ℕ × List (ℕ × ℕ))) → Tell first pages rows → (test : List ℕ → Bool) (k : ℕ) → k < length pages
    → count_in (first + k) (postings_where test rows) ≡ get_or (map (λ page. count_where test page.counts) pages) k 0
unfolding count_meant
counts_of_page first pages rows tell test k within =
    let entries : Entries = map (λ row. (row.0, count_in (first + k) row.1)) rows in
    let counts : Entries = get_or (map (λ page. page.counts) pages) k [] in
    let each : (word : List ℕ) → count_where (same_word word) entries ≡ count_where (same_word word) counts =
    λ word.
    sym (as_entries (same_word word) (first + k) rows)
    ∙ ap (count_in (first + k)) (tell word)
    ∙ count_in-run first (meant_counts false word pages) k (omega (arith, within, length-map pages (λ (page : PageData). count_meant false word page.counts)))
    ∙ counts_at (count_meant false word) pages k within
    in
    as_entries test (first + k) rows ∙ counted_alike (length entries) entries counts (omega arith) each test ∙ sym (counts_at (count_where test) pages k within)

-- ---- which are few

-- each page has the words that pass a test at most `MAX_REPLY` times
pub counts_few : (test : List ℕ → Bool) (pages : List PageData) → AreSmall pages → (k d : ℕ) → k < length pages → get_or (map (λ page. count_where test page.counts) pages) k d ≤ 1048576
counts_few test [] small k d within = absurd (omega (arith, within))
counts_few test (page ∷ pages) small zero d within = omega (arith, small.0, sum_by-le-sum_by (λ (e : List ℕ × ℕ). cond (test e.0) e.1 0) (λ (e : List ℕ × ℕ). e.1) page.counts (λ e. at_most (test e.0) e.1))
counts_few test (page ∷ pages) small (suc k) d within = counts_few test pages small.1 k d (omega (arith, within))

-- ---- and are of the pages

module _ (P : ℕ × ℕ → Type 0) (test : List ℕ → Bool) where
  where_all : (rows : List (List ℕ × List (ℕ × ℕ))) → ((word : List ℕ) → AllByRecursion P (postings_of word rows)) → AllByRecursion P (postings_where test rows)
  where_all [] all = tt
  where_all (row ∷ rows) all =
      all_both P (cond (test row.0) row.1 []) (postings_where test rows) (here (test row.0)) (where_all rows (λ word. all_right P (cond (same_word word row.0) row.1 []) (postings_of word rows) (all word)))
    where
      here : (b : Bool) → AllByRecursion P (cond b row.1 [])
      here true =
          subst (λ b. AllByRecursion P (cond b row.1 [])) ((bytes_decides row.0 row.0).1 refl) (all_left P (cond (same_word row.0 row.0) row.1 []) (postings_of row.0 rows) (all row.0))
      here false = tt

pub within_pages : (first : ℕ) (pages : List PageData) (rows : List (List ℕ × List (ℕ × ℕ))) → Tell first pages rows → (test : List ℕ → Bool) (size : ℕ) → size ≡ length pages → AreWithin first size (postings_where test rows)
within_pages first pages rows tell test size same =
    where_all (λ (posting : ℕ × ℕ). (first ≤ posting.0) × (posting.0 < first + size)) test rows
    (λ word.
    let long : length (meant_counts false word pages) ≡ size = length-map pages (λ (page : PageData). count_meant false word page.counts) ∙ sym same in
    subst (AreWithin first size) (sym (tell word)) (subst (λ n. AreWithin first n (run_of first (meant_counts false word pages))) long (run_within first (meant_counts false word pages))))
