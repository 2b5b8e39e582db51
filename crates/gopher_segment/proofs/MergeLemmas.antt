-- Merging tables: the lowest of their first words, and what is left once it is taken.
use Rattle.std.proofs.Common.{◌≡◌, ℕ, Bool, true, false, zero, suc, ◌+◌, ◌<◌, ◌≤◌, List, [], ◌∷◌, ◌++◌, cond, length, map, take, drop, get_or, Some, None, Option, refl, sym, ap, subst, ◌∙◌, arith}
use Rattle.std.proofs.lemmas.Bool.{both_ways}
use Rattle.std.proofs.lemmas.List.{take-append-drop, length-map, length-take-le, drop_more, get_or_at, get_or_default, flat_map_more, take_more}
use Rattle.std.proofs.lemmas.List.Elements.{All-from_recursion, recursion_from_All}
use Rattle.std.proofs.lemmas.Map.Keys.{sorted_tail}
use Rattle.std.specs.List.{AllByRecursion, flat_map}
use Rattle.std.specs.List.Sorted.{IsStrictlySortedBy}
use Rattle.std.specs.Ordering.{nat_cmp}
use Rattle.std.specs.declared.cmp.Ordering.TheVariants.{Less}
use Rattle.std.specs.Cmp.Lexicographic.{slice_cmp, bytes_decides}
use Rattle.gopher_page.specs.Words.{same_word}
use Rattle.gopher_segment.specs.Rows.{words_of_rows, AreRowsInOrder, first_word, passed, taken, AreAllInOrder, is_at, is_lower, LackBefore, NoneLower, rows_left, AllBefore, AllBeforeNext, ComeBefore}
use Rattle.gopher_segment.proofs.WordOrder.{less_from_apart, all_before_next}

-- ---- the lowest of the first words

-- a word doesn't come after another, if there is another
abbrev pub IsFrom : List ℕ → Option (List ℕ) → Type 0
IsFrom word other = is_lower other (Some word) ≡ false

-- nor after the first word of each table
abbrev pub AreFrom : List ℕ → List (List (List ℕ × List (ℕ × ℕ))) → Type 0
AreFrom word tables = AllByRecursion (λ rows. IsFrom word (first_word rows)) tables

pub are_from : (word : List ℕ) (tables : List (List (List ℕ × List (ℕ × ℕ)))) → NoneLower (Some word) (length tables) tables → AreFrom word tables
are_from word tables none =
    recursion_from_All (λ rows. IsFrom word (first_word rows)) tables (λ k d within. subst (λ rows. IsFrom word (first_word rows)) (get_or_default tables k [] d within) (none k within))

-- where no table begins with a word, no rows are left
pub nothing_left : (tables : List (List (List ℕ × List (ℕ × ℕ)))) → NoneLower None (length tables) tables → rows_left tables ≡ 0
nothing_left [] none = refl
nothing_left ([] ∷ tables) none = omega (arith, nothing_left tables (λ k below. none (suc k) (omega (arith, below))))
nothing_left ((row ∷ rows) ∷ tables) none = absurd (both_ways _ (none 0 (omega arith)) refl)

-- ---- what is left is less

shorter : (word : List ℕ) (rows : List (List ℕ × List (ℕ × ℕ))) → length (passed word rows) ≤ length rows
shorter word [] = omega arith
shorter word (row ∷ rows) = by (same_word row.0 word)
  where
    by : (b : Bool) → length (cond b rows (row ∷ rows)) ≤ suc (length rows)
    by true = omega arith
    by false = omega arith

much_shorter : (word : List ℕ) (rows : List (List ℕ × List (ℕ × ℕ))) → first_word rows ≡ Some word → length (passed word rows) < length rows
much_shorter word [] e = absurd cc
much_shorter word (row ∷ rows) e =
    let same : row.0 ≡ word = cc in
    rw ((bytes_decides row.0 word).1 same) (omega arith)

all_shorter : (word : List ℕ) (tables : List (List (List ℕ × List (ℕ × ℕ)))) → rows_left (map (passed word) tables) ≤ rows_left tables
all_shorter word [] = omega arith
all_shorter word (rows ∷ tables) = omega (arith, shorter word rows, all_shorter word tables)

pub fewer_left : (word : List ℕ) (tables : List (List (List ℕ × List (ℕ × ℕ)))) (at : ℕ) → at < length tables → first_word (get_or tables at []) ≡ Some word → rows_left (map (passed word) tables) < rows_left tables
fewer_left word [] at within here = absurd (omega (arith, within))
fewer_left word (rows ∷ tables) zero within here = omega (arith, much_shorter word rows here, all_shorter word tables)
fewer_left word (rows ∷ tables) (suc at) within here = omega (arith, shorter word rows, fewer_left word tables at (omega (arith, within)) here)

-- ---- the order

pass_order : (word : List ℕ) (rows : List (List ℕ × List (ℕ × ℕ))) → AreRowsInOrder rows → AreRowsInOrder (passed word rows)
pass_order word [] order = order
pass_order word (row ∷ rows) order = by (same_word row.0 word)
  where
    by : (b : Bool) → AreRowsInOrder (cond b rows (row ∷ rows))
    by true = sorted_tail (slice_cmp nat_cmp) row.0 (words_of_rows rows) order
    by false = order

pub pass_orders : (word : List ℕ) (tables : List (List (List ℕ × List (ℕ × ℕ)))) → AreAllInOrder tables → AreAllInOrder (map (passed word) tables)
pass_orders word [] orders = tt
pass_orders word (rows ∷ tables) orders = (pass_order word rows orders.0, pass_orders word tables orders.1)

-- what comes before all words comes before the first of each table
pub before_first : (words : List (List ℕ)) (word : List ℕ) (tables : List (List (List ℕ × List (ℕ × ℕ)))) (at : ℕ) → ComeBefore words tables → at < length tables → first_word (get_or tables at []) ≡ Some word → AllBefore words word
before_first words word tables at before within here =
    subst (AllBeforeNext words) here (All-from_recursion (λ rows. AllBeforeNext words (first_word rows)) tables before at [] within)

next_before : (words : List (List ℕ)) (word : List ℕ) (row : List ℕ × List (ℕ × ℕ)) (rows : List (List ℕ × List (ℕ × ℕ))) → AreRowsInOrder (row ∷ rows) → AllBefore words word → row.0 ≡ word
    → AllBeforeNext (words ++ word ∷ []) (first_word rows)
unfolding IsStrictlySortedBy
next_before words word row [] order before same = tt
next_before words word row (next ∷ rows) order before same =
    all_before_next words word next.0 before (subst (λ w. slice_cmp nat_cmp w next.0 ≡ Less) same order.0.0)

pass_before : (words : List (List ℕ)) (word : List ℕ) (rows : List (List ℕ × List (ℕ × ℕ))) → IsFrom word (first_word rows) → AreRowsInOrder rows → AllBefore words word → AllBeforeNext (words ++ word ∷ []) (first_word (passed word rows))
pass_before words word [] from order before = tt
pass_before words word (row ∷ rows) from order before = by (same_word row.0 word) refl
  where
    by : (b : Bool) → same_word row.0 word ≡ b → AllBeforeNext (words ++ word ∷ []) (first_word (cond b rows (row ∷ rows)))
    by true e = next_before words word row rows order before ((bytes_decides row.0 word).0 e)
    by false e = all_before_next words word row.0 before (less_from_apart row.0 word from e)

-- and with the lowest before what is left
pub pass_befores : (words : List (List ℕ)) (word : List ℕ) (tables : List (List (List ℕ × List (ℕ × ℕ)))) → AreFrom word tables → AreAllInOrder tables → AllBefore words word → ComeBefore (words ++ word ∷ []) (map (passed word) tables)
pass_befores words word [] from orders before = tt
pass_befores words word (rows ∷ tables) from orders before = (pass_before words word rows from.0 orders.0 before, pass_befores words word tables from.1 orders.1 before)

-- ---- a word is taken from one table after another

pub now_at : {X : Type 0} (f : X → X) (xs now : List X) (i : ℕ) (d : X) → i < length xs → now ≡ map f (take i xs) ++ drop i xs → get_or now i d ≡ get_or xs i d
now_at f xs now i d within is =
    let before = map f (take i xs) in
    let size : length before ≡ i = length-map (take i xs) f ∙ length-take-le i xs (omega arith) in
    ap (λ l. get_or l i d) (is ∙ ap (λ l. before ++ l) (drop_more xs i d within)) ∙ get_or_at before (get_or xs i d) (drop (i + 1) xs) d i size

pub flat_step : {X Y : Type 0} (f : X → List Y) (start : List Y) (xs : List X) (i : ℕ) (d : X) → i < length xs → (start ++ flat_map f (take i xs)) ++ f (get_or xs i d) ≡ start ++ flat_map f (take (i + 1) xs)
flat_step f start xs i d within =
    flat_map_more f start (take i xs) (get_or xs i d) ∙ ap (λ l. start ++ flat_map f l) (sym (take_more xs i d within))

-- the tables before the first that begins with a word are left as they are
same_rows : (word : List ℕ) (rows : List (List ℕ × List (ℕ × ℕ))) → is_at word rows ≡ false → passed word rows ≡ rows
same_rows word [] lack = refl
same_rows word (row ∷ rows) lack = ap (λ b. cond b rows (row ∷ rows)) lack

none_taken : (word : List ℕ) (rows : List (List ℕ × List (ℕ × ℕ))) → is_at word rows ≡ false → taken word rows ≡ []
none_taken word [] lack = refl
none_taken word (row ∷ rows) lack = ap (λ b. cond b row.1 []) lack

same_before : (word : List ℕ) (first : ℕ) (tables : List (List (List ℕ × List (ℕ × ℕ)))) → LackBefore word first tables → map (passed word) (take first tables) ≡ take first tables
same_before word zero tables lack = refl
same_before word (suc first) [] lack = refl
same_before word (suc first) (rows ∷ tables) lack =
    (λ i. same_rows word rows (lack 0 (omega arith)) i ∷ same_before word first tables (λ k below. lack (suc k) (omega (arith, below))) i)

pub left_before : (word : List ℕ) (first : ℕ) (tables : List (List (List ℕ × List (ℕ × ℕ)))) → LackBefore word first tables → tables ≡ map (passed word) (take first tables) ++ drop first tables
left_before word first tables lack = sym (take-append-drop first tables) ∙ ap (λ l. l ++ drop first tables) (sym (same_before word first tables lack))

pub none_before : (word : List ℕ) (first : ℕ) (tables : List (List (List ℕ × List (ℕ × ℕ)))) → LackBefore word first tables → flat_map (taken word) (take first tables) ≡ []
none_before word zero tables lack = refl
none_before word (suc first) [] lack = refl
none_before word (suc first) (rows ∷ tables) lack =
    (λ i. none_taken word rows (lack 0 (omega arith)) i ++ none_before word first tables (λ k below. lack (suc k) (omega (arith, below))) i)
