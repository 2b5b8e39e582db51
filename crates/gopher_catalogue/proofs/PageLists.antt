-- Lists of pages that pass a test, in strict order: the hits of a query, and the occurrences of a
-- word.
use Rattle.std.proofs.Common.{◌≡◌, ◌⊎◌, ℕ, ◌+◌, suc, Bool, true, false, cond, List, [], ◌∷◌, ◌++◌, take, get_or, ◌↔◌, inl, inr, refl, sym, ◌∙◌, ap, subst, arith, ltb, Ordering, Less, Equal, Greater}
use Rattle.std.specs.List.{flat_map, fold, All, AllByRecursion, Contains, IsDistinct}
use Rattle.std.specs.List.Sorted.{IsStrictlySortedBy, IsSorted}
use Rattle.std.specs.Ordering.{nat_cmp, on, ordering_then, ordering_reverse, is_eq, is_lt}
use Rattle.std.specs.BTreeSet.{insert_key}
use Rattle.std.specs.Cmp.{IsTotalOrder}
use Rattle.std.proofs.lemmas.Bool.{both_ways, false≢true}
use Rattle.std.proofs.lemmas.Cmp.{nat_cmp_total, back_total, on_total, then_total}
use Rattle.std.proofs.lemmas.List.Elements.{All-nil, All-append, All-contains, Contains-append_left, Contains-append_right, All-contains_itself}
use Rattle.std.proofs.lemmas.List.Sorted.{Contains-permutation, IsPermutation-sym}
use Rattle.std.proofs.lemmas.Map.Keys.{IsDistinct-IsPermutation}
use Rattle.gopher_item.specs.Laws.{place_cmp_total, same_place_ties, same_place_equiv}
use Rattle.gopher_item.specs.Place.{PlaceData, same_place, place_cmp}
use Rattle.gopher_item.proofs.PlaceLemmas.{same_place-true}
use Rattle.gopher_page.specs.Page.{PageData}
use Rattle.gopher_page.specs.Query.{TermData, matches, score}
use Rattle.gopher_page.specs.Counts.{count_meant}
use Rattle.gopher_page.proofs.SortedInserts.{sorted_inserts, all_after}
use Rattle.gopher_index.specs.declared.hit.Hit.{Hit}
use Rattle.gopher_index.specs.Answer.{rank_cmp, hits_among, ranked, answer_of, occurrence_of, occurring, occurrences_of, occurrence_cmp, AreOccurrences}
use Rattle.gopher_catalogue.specs.Closure.{IsOrdered}
use Rattle.gopher_catalogue.proofs.SortedLists.{contains_here, contains_later, contains_none, contains_cases, All-inserts, contains_inserts, sorted_one}

-- two pages of one place are equal
abbrev pub IsOnePerPlace : (PageData → Type 0) → Type 0
IsOnePerPlace IsPage = (a b : PageData) → IsPage a → IsPage b → a.place ≡ b.place → a ≡ b

-- ---- what the elements of a list give

all_given : {X Y : Type 0} (f : X → List Y) (P : Y → Type 0) (xs : List X) → ((x : X) → Contains xs x → All P (f x)) → All P (flat_map f xs)
all_given f P [] h = All-nil P
all_given f P (x ∷ xs) h = All-append P (f x) (flat_map f xs) (h x (contains_here x xs)) (all_given f P xs (λ y has. h y (contains_later x xs y has)))

given_by : {X Y : Type 0} (f : X → List Y) (xs : List X) (y : Y) → Contains (flat_map f xs) y → (x : X) × Contains xs x × Contains (f x) y
given_by {X} {Y} f xs y has =
    let IsGiven : Y → Type 0 = λ z. (x : X) × Contains xs x × Contains (f x) z in
    All-contains IsGiven (flat_map f xs) y (all_given f IsGiven xs (λ x there k d within. (x, there, All-contains_itself (f x) k d within))) has

pub contains_given : {X Y : Type 0} (f : X → List Y) (xs : List X) (x : X) (y : Y) → Contains xs x → Contains (f x) y → Contains (flat_map f xs) y
contains_given f [] x y has gives = absurd (contains_none x has)
contains_given f (z ∷ xs) x y has gives = by (contains_cases z xs x has) (contains_given f xs x y)
  where
    by : (z ≡ x) ⊎ Contains xs x → (Contains xs x → Contains (f x) y → Contains (flat_map f xs) y) → Contains (f z ++ flat_map f xs) y
    by (inl e) rest = Contains-append_left (f z) (flat_map f xs) y (subst (λ w. Contains (f w) y) (sym e) gives)
    by (inr later) rest = Contains-append_right (f z) (flat_map f xs) y (rest later gives)

-- ---- lists in order

module _ {Y : Type 0} {order : Y → Y → Ordering} (total : IsTotalOrder order) where
  -- lists of the same elements have one list in order
  pub ordered_one : (some others list other : List Y) → ((y : Y) → Contains some y ↔ Contains others y) → IsOrdered order some list → IsOrdered order others other → list ≡ other
  ordered_one some others list other same is is' =
      sorted_one total list other is.in_order is'.in_order (λ y has. (is'.members y).1 ((same y).0 ((is.members y).0 has))) (λ y has. (is.members y).1 ((same y).1 ((is'.members y).0 has)))

  module _ (test : PageData → Bool) (show : PageData → Y) where
    -- what is shown of a page, if it passes
    abbrev shown_by : PageData → List Y
    shown_by page = cond (test page) (show page ∷ []) []

    only : (page : PageData) (y : Y) → Contains (shown_by page) y → y ≡ show page
    only page y has = by (test page) has
      where
        by : (b : Bool) → Contains (cond b (show page ∷ []) []) y → y ≡ show page
        by true has' = first (contains_cases (show page) [] y has')
          where
            first : (show page ≡ y) ⊎ Contains [] y → y ≡ show page
            first (inl e) = sym e
            first (inr none) = absurd (contains_none y none)
        by false none = absurd (contains_none y none)

    -- what is shown of pages, inserted one by one in order, if pages that tie are equal
    ordered_shown : (pages : List PageData) → ((a b : PageData) → Contains pages a → Contains pages b → order (show a) (show b) ≡ Equal → a ≡ b)
        → IsOrdered order (flat_map shown_by pages) (fold (insert_key order) [] (flat_map shown_by pages))
    ordered_shown pages one =
        let all : List Y = flat_map shown_by pages in
        let from : All (Contains all) all = All-contains_itself all in
        let tied : (y z : Y) → Contains all y → Contains all z → order y z ≡ Equal → y ≡ z =
        λ y z has has' e.
        let a = given_by shown_by pages y has in
        let b = given_by shown_by pages z has' in
        let first : y ≡ show a.0 = only a.0 y a.2 in
        let second : z ≡ show b.0 = only b.0 z b.2 in
        first ∙ ap show (one a.0 b.0 a.1 b.1 (sym (λ i. order (first i) (second i)) ∙ e)) ∙ sym second in
        record {
          members = λ y. (
            λ has. All-contains (Contains all) (fold (insert_key order) [] all) y (All-inserts total (Contains all) [] all (All-nil (Contains all)) from) has,
            λ has. contains_inserts total (Contains all) tied [] all y (All-nil (Contains all)) from has,
          );
          in_order = sorted_inserts total all;
        }

    -- pages that are the same show the same
    shown_same : (pages others : List PageData) → ((page : PageData) → Contains pages page → Contains others page) → (y : Y) → Contains (flat_map shown_by pages) y → Contains (flat_map shown_by others) y
    shown_same pages others same y has = let a = given_by shown_by pages y has in contains_given shown_by others a.0 y (same a.0 a.1) a.2

    inserted_same : (pages others : List PageData) → ((page : PageData) → Contains pages page ↔ Contains others page) → ((a b : PageData) → Contains pages a → Contains pages b → order (show a) (show b) ≡ Equal → a ≡ b)
        → fold (insert_key order) [] (flat_map shown_by pages) ≡ fold (insert_key order) [] (flat_map shown_by others)
    inserted_same pages others same one =
        ordered_one (flat_map shown_by pages) (flat_map shown_by others) _ _
        (λ y. (shown_same pages others (λ page. (same page).0) y, shown_same others pages (λ page. (same page).1) y))
        (ordered_shown pages one) (ordered_shown others (λ a b has has'. one a b ((same a).1 has) ((same b).1 has')))

place_tied : (a b : PlaceData) → place_cmp a b ≡ Equal → a ≡ b
place_tied a b e = same_place-true a b (same_place_ties a b ∙ ap is_eq e)

-- ---- hits

rank_total : IsTotalOrder rank_cmp
rank_total = then_total (on_total (λ (hit : Hit). hit.score) (back_total nat_cmp_total)) (on_total (λ (hit : Hit). hit.place) place_cmp_total)

second_tied : (r s : Ordering) → ordering_then r s ≡ Equal → s ≡ Equal
second_tied Less s e = absurd (false≢true (ap is_eq e))
second_tied Equal s e = e
second_tied Greater s e = absurd (false≢true (ap is_eq e))

abbrev hit_at : List TermData → PageData → Hit
hit_at query page = record { place = page.place; title = page.title; score = score query page.counts }

module _ (query : List TermData) (pages : List PageData) (once : IsOnePerPlace (Contains pages)) where
  hits_tied : (a b : PageData) → Contains pages a → Contains pages b → rank_cmp (hit_at query a) (hit_at query b) ≡ Equal → a ≡ b
  hits_tied a b has has' e = once a b has has' (place_tied a.place b.place (second_tied (nat_cmp (score query b.counts) (score query a.counts)) (place_cmp a.place b.place) e))

  pub hits_ordered : IsOrdered rank_cmp (hits_among query pages) (ranked (hits_among query pages))
  unfolding ranked hits_among
  hits_ordered = ordered_shown rank_total (λ page. matches query page.counts) (hit_at query) pages hits_tied

  pub answers_same : (others : List PageData) → ((page : PageData) → Contains pages page ↔ Contains others page) → answer_of pages query ≡ answer_of others query
  unfolding answer_of ranked hits_among
  answers_same others same = ap (take 50) (inserted_same rank_total (λ page. matches query page.counts) (hit_at query) pages others same hits_tied)

-- ---- occurrences

abbrev Occurrence : Type 0
Occurrence = PlaceData × ℕ

abbrev by_place : Occurrence → Occurrence → Ordering
by_place = on (λ (occurrence : Occurrence). occurrence.0) place_cmp

by_place_total : IsTotalOrder by_place
by_place_total = on_total (λ (occurrence : Occurrence). occurrence.0) place_cmp_total

abbrev has_word : List ℕ → PageData → Bool
has_word word page = ltb 0 (count_meant false word page.counts)

abbrev occurrence_at : List ℕ → PageData → Occurrence
occurrence_at word page = (page.place, count_meant false word page.counts)

module _ (word : List ℕ) (pages : List PageData) (once : IsOnePerPlace (Contains pages)) where
  occurrences_tied : (a b : PageData) → Contains pages a → Contains pages b → by_place (occurrence_at word a) (occurrence_at word b) ≡ Equal → a ≡ b
  occurrences_tied a b has has' e = once a b has has' (place_tied a.place b.place e)

  pub occurrences_ordered : IsOrdered by_place (occurring word pages) (occurrences_of pages word)
  unfolding occurrences_of occurring
  occurrences_ordered = ordered_shown by_place_total (has_word word) (occurrence_at word) pages occurrences_tied

  pub occurrences_same : (others : List PageData) → ((page : PageData) → Contains pages page ↔ Contains others page) → occurrences_of pages word ≡ occurrences_of others word
  unfolding occurrences_of occurring
  occurrences_same others same = inserted_same by_place_total (has_word word) (occurrence_at word) pages others same occurrences_tied

-- ---- occurrences that were sorted

abbrev pub of_same_place : PageData → PageData → Bool
of_same_place a b = same_place a.place b.place

abbrev at_same_place : Occurrence → Occurrence → Bool
at_same_place a b = same_place a.0 b.0

apart_from_all : (word : List ℕ) (place : PlaceData) (pages : List PageData) → AllByRecursion (λ (page : PageData). same_place place page.place ≡ false) pages → AllByRecursion (λ (o : Occurrence). same_place place o.0 ≡ false) (flat_map (occurrence_of word) pages)
apart_from_all word place [] apart = tt
apart_from_all word place (page ∷ pages) apart = by (has_word word page) (apart_from_all word place pages apart.1)
  where
    by : (b : Bool) → AllByRecursion (λ (o : Occurrence). same_place place o.0 ≡ false) (flat_map (occurrence_of word) pages)
        → AllByRecursion (λ (o : Occurrence). same_place place o.0 ≡ false) (cond b (occurrence_at word page ∷ []) [] ++ flat_map (occurrence_of word) pages)
    by true rest = (apart.0, rest)
    by false rest = rest

occurrences_distinct : (word : List ℕ) (pages : List PageData) → IsDistinct of_same_place pages → IsDistinct at_same_place (flat_map (occurrence_of word) pages)
unfolding IsDistinct
occurrences_distinct word [] distinct' = tt
occurrences_distinct word (page ∷ pages) distinct' = by (has_word word page) (occurrences_distinct word pages distinct'.1)
  where
    by : (b : Bool) → IsDistinct at_same_place (flat_map (occurrence_of word) pages) → IsDistinct at_same_place (cond b (occurrence_at word page ∷ []) [] ++ flat_map (occurrence_of word) pages)
    by true rest = (apart_from_all word page.place pages distinct'.0, rest)
    by false rest = rest

-- an occurrence that doesn't come before another one, and is of another place, comes after it
next_below : (a b : Occurrence) → is_lt (occurrence_cmp b a) ≡ false → at_same_place a b ≡ false → by_place a b ≡ Less
next_below a b level apart = by (place_cmp b.0 a.0) refl level
  where
    by : (r : Ordering) → place_cmp b.0 a.0 ≡ r → is_lt (ordering_then r (nat_cmp b.1 a.1)) ≡ false → place_cmp a.0 b.0 ≡ Less
    by Less e level' = absurd (both_ways true level' refl)
    by Equal e level' =
        let tied : same_place b.0 a.0 ≡ true = same_place_ties b.0 a.0 ∙ ap is_eq e in
        absurd (both_ways (same_place a.0 b.0) apart (same_place_equiv.symm a.0 b.0 ∙ tied))
    by Greater e level' = place_cmp_total.antisymm a.0 b.0 ∙ ap ordering_reverse e

-- sorted occurrences of distinct places are in strict order
strictly_sorted : (list : List Occurrence) → IsSorted occurrence_cmp list → IsDistinct at_same_place list → IsStrictlySortedBy by_place list
unfolding IsStrictlySortedBy IsDistinct
strictly_sorted [] sorted distinct' = tt
strictly_sorted (a ∷ []) sorted distinct' = (tt, tt)
strictly_sorted (a ∷ b ∷ list) sorted distinct' =
    let rest : IsStrictlySortedBy by_place (b ∷ list) =
    strictly_sorted (b ∷ list)
    (λ k d low within.
    let e : suc k + 1 ≡ suc (k + 1) = omega arith in
    subst (λ n. is_lt (occurrence_cmp (get_or (a ∷ b ∷ list) n d) (get_or (b ∷ list) k d)) ≡ false) e (sorted (suc k) d (omega arith) (omega arith)))
    distinct'.1 in
    let less : by_place a b ≡ Less = next_below a b (sorted 0 a (omega arith) (omega arith)) distinct'.0.0 in
    ((less, all_after by_place_total a b list less rest.0), rest)

-- the occurrences in pages of distinct places, sorted, are those of the pages
pub occurrences_are : (pages : List PageData) (word : List ℕ) (list : List Occurrence) → IsOnePerPlace (Contains pages) → IsDistinct of_same_place pages → AreOccurrences pages word list → list ≡ occurrences_of pages word
unfolding occurring
occurrences_are pages word list once distinct' are =
    let all : List Occurrence = occurring word pages in
    ordered_one by_place_total all all list (occurrences_of pages word) (λ o. (λ has. has, λ has. has))
    (record {
      members = λ o. (Contains-permutation list all o (IsPermutation-sym all list are.permutation), Contains-permutation all list o are.permutation);
      in_order = strictly_sorted list are.sorted
          (IsDistinct-IsPermutation at_same_place (λ a b. same_place_equiv.symm a.0 b.0) all list are.permutation (occurrences_distinct word pages distinct'));
    })
    (occurrences_ordered word pages once)
