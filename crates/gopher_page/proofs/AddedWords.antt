-- The counts of words: unknown words aren't counted, and each counted word occurs.
use Rattle.std.proofs.Common.{◌≡◌, ℕ, ◌<◌, false, cond, List, [], ◌∷◌, get_or, map, count_by, refl, sym, ap, subst, ◌∙◌, arith}
use Rattle.std.proofs.lemmas.Bool.{or_from, or_parts}
use Rattle.std.proofs.lemmas.List.Elements.{All-head, All-map, All-nil, All-tail, recursion_from_All}
use Rattle.std.proofs.lemmas.List.Sums.{sum_by-cons, sum_by_more_le}
use Rattle.std.proofs.lemmas.Map.Views.{All-insert_key}
use Rattle.std.specs.List.{fold, list_any, All, AllByRecursion}
use Rattle.std.specs.BTreeSet.{insert_key}
use Rattle.std.specs.Ordering.{nat_cmp, match_ordering, is_eq}
use Rattle.std.specs.declared.cmp.Ordering.{Ordering}
use Rattle.std.specs.declared.cmp.Ordering.TheVariants.{Less, Equal, Greater}
use Rattle.std.specs.Cmp.Lexicographic.{slice_cmp, bytes_decides, texts_ties}
use Rattle.gopher_page.specs.Words.{same_word}
use Rattle.gopher_page.specs.Counts.{counts_of, sorted_words}

abbrev pub compare : List ℕ → List ℕ → Ordering
compare = slice_cmp nat_cmp

-- ---- the order

pub equal_words : (a b : List ℕ) → compare a b ≡ Equal → a ≡ b
equal_words a b e = (bytes_decides a b).0 (texts_ties a b ∙ ap is_eq e)

pub not_same : (a b : List ℕ) (r : Ordering) → compare a b ≡ r → is_eq r ≡ false → same_word a b ≡ false
not_same a b r e n = texts_ties a b ∙ ap is_eq e ∙ n

-- ---- a word that isn't among the sorted ones isn't among the words

absent_from : (sought : List ℕ) (words : List (List ℕ)) (word : List ℕ) → list_any (same_word sought) (insert_key compare words word) ≡ false → (list_any (same_word sought) words ≡ false) × (same_word sought word ≡ false)
absent_from sought [] word h = (refl, (or_parts (same_word sought word) false h).0)
absent_from sought (first ∷ words) word h = by (compare word first) refl (absent_from sought words word) h
  where
    by : (r : Ordering) → compare word first ≡ r
        → (list_any (same_word sought) (insert_key compare words word) ≡ false → (list_any (same_word sought) words ≡ false) × (same_word sought word ≡ false))
        → list_any (same_word sought) (match_ordering r (word ∷ first ∷ words) (first ∷ words) (first ∷ insert_key compare words word)) ≡ false
        → (list_any (same_word sought) (first ∷ words) ≡ false) × (same_word sought word ≡ false)
    by Less e rest g =
        let parts = or_parts (same_word sought word) (list_any (same_word sought) (first ∷ words)) g in
        (parts.1, parts.0)
    by Equal e rest g =
        (g, subst (λ w. same_word sought w ≡ false) (sym (equal_words word first e)) (or_parts (same_word sought first) (list_any (same_word sought) words) g).0)
    by Greater e rest g =
        let parts = or_parts (same_word sought first) (list_any (same_word sought) (insert_key compare words word)) g in
        let inner = rest parts.1 in
        (or_from (same_word sought first) (list_any (same_word sought) words) parts.0 inner.0, inner.1)

pub absent_along : (sought : List ℕ) (held words : List (List ℕ)) → list_any (same_word sought) (fold (insert_key compare) held words) ≡ false → (list_any (same_word sought) held ≡ false) × (count_by (same_word sought) words ≡ 0)
absent_along sought held [] h = (h, refl)
absent_along sought held (word ∷ words) h =
    let rest = absent_along sought (insert_key compare held word) words h in
    let here = absent_from sought held word rest.0 in
    (here.0, sum_by-cons (λ w. cond (same_word sought w) 1 0) word words ∙ rw (here.1, rest.1))

-- ---- words with their values

abbrev pub with_values : (List ℕ → ℕ) → List (List ℕ) → List (List ℕ × ℕ)
with_values value words = map (λ word. (word, value word)) words

-- ---- each word occurs at least once

each_occurs : (words : List (List ℕ)) → All (λ word. 0 < count_by (same_word word) words) words
each_occurs words k d within =
    let word : List ℕ = get_or words k d in
    let here : ◌≡◌ {A = ℕ} (cond (same_word word word) 1 0) 1 = ap (λ t. cond t 1 0) ((bytes_decides word word).1 refl) in
    omega (arith, here, sum_by_more_le (λ w. cond (same_word word w) 1 0) words k d within)

all_inserted : (P : List ℕ → Type 0) (held words : List (List ℕ)) → All P held → All P words → All P (fold (insert_key compare) held words)
all_inserted P held [] all more = all
all_inserted P held (word ∷ words) all more =
    all_inserted P (insert_key compare held word) words (All-insert_key compare word P held all (All-head P word words more)) (All-tail P word words more)

pub positive_counts : (words : List (List ℕ)) → AllByRecursion (λ entry. 0 < entry.1) (counts_of words)
unfolding counts_of
positive_counts words =
    let positive : List ℕ × ℕ → Type 0 = λ entry. 0 < entry.1 in
    let occurs : List ℕ → Type 0 = λ word. 0 < count_by (same_word word) words in
    recursion_from_All positive (counts_of words)
    (All-map positive (λ word. (word, count_by (same_word word) words)) (sorted_words words) (all_inserted occurs [] words (All-nil occurs) (each_occurs words)))
