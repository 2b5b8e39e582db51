-- Large pages, whose words a table leaves out.
use Rattle.std.proofs.Common.{◌≡◌, ℕ, zero, suc, Bool, true, false, List, [], ◌∷◌, ◌++◌, ◌+◌, ◌<◌, ◌≤◌, cond, length, map, get_or, slice_set, refl, sym, ap, ◌∙◌, append_assoc, arith}
use Rattle.std.proofs.lemmas.List.{length-map}
use Rattle.std.specs.List.{sum_by}
use Rattle.std.specs.List.Sorted.{IsStrictlySortedBy}
use Rattle.gopher_page.specs.Packed.{AreCounts}
use Rattle.gopher_page.specs.Page.{PageData, is_large, page_with}
use Rattle.gopher_segment.specs.Large.{in_table, table_pages, large_from}
use Rattle.gopher_segment.specs.SegmentRows.{AreSmall}

-- ---- a page as a table has it

abbrev left : PageData → Bool → PageData
left page t = cond t (page_with page.place page.title page.links []) page

small_page : (page : PageData) → sum_by (λ entry. entry.1) page.counts ≤ 1048576 → sum_by (λ entry. entry.1) (in_table page).counts ≤ 1048576
small_page page small = by (is_large page)
  where
    by : (t : Bool) → sum_by (λ entry. entry.1) (left page t).counts ≤ 1048576
    by true = omega arith
    by false = small

pub small_in_table : (pages : List PageData) → AreSmall pages → AreSmall (table_pages pages)
small_in_table [] small = tt
small_in_table (page ∷ pages) small = (small_page page small.0, small_in_table pages small.1)

no_counts : AreCounts []
unfolding IsStrictlySortedBy
no_counts = record { ordered = tt; positive = tt; few = omega arith }

pub sound_in_table : (page : PageData) → AreCounts page.counts → AreCounts (in_table page).counts
sound_in_table page sound = by (is_large page)
  where
    by : (t : Bool) → AreCounts (left page t).counts
    by true = no_counts
    by false = sound

pub length_in_table : (pages : List PageData) → length (table_pages pages) ≡ length pages
length_in_table pages = length-map pages in_table

-- ---- the indices of large pages

pub none_large : (index : ℕ) (pages : List PageData) → large_from index pages ≡ [] → table_pages pages ≡ pages
none_large index [] none = refl
none_large index (page ∷ pages) none = by (is_large page) refl none (none_large (index + 1) pages)
  where
    by : (t : Bool) → is_large page ≡ t → cond t (index ∷ large_from (index + 1) pages) (large_from (index + 1) pages) ≡ [] → (large_from (index + 1) pages ≡ [] → table_pages pages ≡ pages)
        → in_table page ∷ table_pages pages ≡ page ∷ pages
    by true e some rest = absurd cc
    by false e some rest =
        let here : in_table page ≡ page = ap (left page) e in
        let behind : table_pages pages ≡ pages = rest some in
        λ i. here i ∷ behind i

-- each is the index of a page
pub large_within : (index : ℕ) (pages : List PageData) (k d : ℕ) → k < length (large_from index pages) → get_or (large_from index pages) k d < index + length pages
large_within index [] k d within = absurd (omega (arith, within))
large_within index (page ∷ pages) k d within = by (is_large page) k within (large_within (index + 1) pages)
  where
    by : (t : Bool) (k : ℕ) → k < length (cond t (index ∷ large_from (index + 1) pages) (large_from (index + 1) pages))
        → ((k d : ℕ) → k < length (large_from (index + 1) pages) → get_or (large_from (index + 1) pages) k d < index + 1 + length pages)
        → get_or (cond t (index ∷ large_from (index + 1) pages) (large_from (index + 1) pages)) k d < index + suc (length pages)
    by true zero inside rest = omega arith
    by true (suc k) inside rest = omega (arith, rest k d (omega (arith, inside)))
    by false k inside rest = omega (arith, rest k d inside)

-- ---- writing their counts

-- cells after a value was written at each of these indices
abbrev pub written : (ℕ → ℕ) → List ℕ → List ℕ → List ℕ
written value [] cells = cells
written value (index ∷ indices) cells = written value indices (slice_set cells index (value index))

set_behind : (done : List ℕ) (old : ℕ) (rest : List ℕ) (index new : ℕ) → index ≡ length done → slice_set (done ++ old ∷ rest) index new ≡ done ++ new ∷ rest
set_behind [] old rest zero new here = refl
set_behind [] old rest (suc index) new here = absurd (omega arith)
set_behind (first ∷ done) old rest zero new here = absurd (omega arith)
set_behind (first ∷ done) old rest (suc index) new here = ap (λ l. first ∷ l) (set_behind done old rest index new (omega arith))

pub written_from : (value : ℕ → ℕ) (f : PageData → ℕ) (done : List ℕ) (index : ℕ) (pages : List PageData) → index ≡ length done → ((k : ℕ) → k < length pages → value (index + k) ≡ get_or (map f pages) k 0)
    → written value (large_from index pages) (done ++ map f (table_pages pages)) ≡ done ++ map f pages
written_from value f done index [] here is = refl
written_from value f done index (page ∷ pages) here is =
    by (is_large page) refl
    (λ first same.
    ap (λ n. written value (large_from (index + 1) pages) (done ++ n ∷ map f (table_pages pages))) same
    ∙ ap (written value (large_from (index + 1) pages)) (sym (append_assoc done (f page ∷ []) (map f (table_pages pages))))
    ∙ written_from value f (done ++ f page ∷ []) (index + 1) pages (omega (arith, here, lasts done)) more
    ∙ append_assoc done (f page ∷ []) (map f pages))
  where
    lasts : (xs : List ℕ) → length (xs ++ f page ∷ []) ≡ length xs + 1
    lasts [] = refl
    lasts (x ∷ xs) = omega (arith, lasts xs)

    more : (k : ℕ) → k < length pages → value (index + 1 + k) ≡ get_or (map f pages) k 0
    more k within =
        let moved : index + 1 + k ≡ index + suc k = omega arith in
        ap value moved ∙ is (suc k) (omega (arith, within))

    first_is : value index ≡ f page
    first_is =
        let none : index ≡ index + 0 = omega arith in
        ap value none ∙ is 0 (omega arith)

    by : (t : Bool) → is_large page ≡ t → ((first : ℕ) → first ≡ f page → written value (large_from (index + 1) pages) (done ++ first ∷ map f (table_pages pages)) ≡ done ++ f page ∷ map f pages)
        → written value (cond t (index ∷ large_from (index + 1) pages) (large_from (index + 1) pages)) (done ++ f (in_table page) ∷ map f (table_pages pages)) ≡ done ++ f page ∷ map f pages
    by true e rest =
        ap (written value (large_from (index + 1) pages)) (set_behind done (f (in_table page)) (map f (table_pages pages)) index (value index) here)
        ∙ rest (value index) first_is
    by false e rest = rest (f (in_table page)) (ap (λ t. f (left page t)) e)
