-- The order of words by their bytes.
use Rattle.std.proofs.Common.{◌≡◌, true, false, ℕ, List, [], ◌∷◌, ◌++◌, refl, sym, ap, ◌∙◌}
use Rattle.std.proofs.lemmas.Bool.{both_ways}
use Rattle.std.proofs.lemmas.Cmp.{tied_itself}
use Rattle.std.specs.List.{AllByRecursion}
use Rattle.std.specs.List.Sorted.{IsStrictlySortedBy}
use Rattle.std.specs.Ordering.{nat_cmp, is_lt, is_eq, ordering_reverse}
use Rattle.std.specs.declared.cmp.Ordering.{Ordering}
use Rattle.std.specs.declared.cmp.Ordering.TheVariants.{Less, Equal, Greater}
use Rattle.std.specs.Cmp.Lexicographic.{slice_cmp, nat_list_cmp_total, texts_ties}
use Rattle.gopher_page.specs.Counts.{is_before}
use Rattle.gopher_page.specs.Words.{same_word}
use Rattle.gopher_segment.specs.Rows.{AllBefore}

pub less_from_before : (a b : List ℕ) → is_before a b ≡ true → slice_cmp nat_cmp a b ≡ Less
less_from_before a b e = by (slice_cmp nat_cmp a b) e
  where
    by : (r : Ordering) → is_lt r ≡ true → r ≡ Less
    by Less h = refl
    by Equal h = absurd (both_ways false refl h)
    by Greater h = absurd (both_ways false refl h)

pub never_before_itself : (a : List ℕ) → is_before a a ≡ false
never_before_itself a = ap is_lt (tied_itself nat_list_cmp_total a)

-- a word that isn't before another, nor is it, comes after it
pub less_from_apart : (a b : List ℕ) → is_before a b ≡ false → same_word a b ≡ false → slice_cmp nat_cmp b a ≡ Less
less_from_apart a b not_before apart = nat_list_cmp_total.antisymm b a ∙ by (slice_cmp nat_cmp a b) not_before (sym (texts_ties a b) ∙ apart)
  where
    by : (o : Ordering) → is_lt o ≡ false → is_eq o ≡ false → ordering_reverse o ≡ Less
    by Less h e = absurd (both_ways _ h refl)
    by Equal h e = absurd (both_ways _ e refl)
    by Greater h e = refl

-- ---- words in order

all_push : (first : List ℕ) (words : List (List ℕ)) (word : List ℕ) → AllByRecursion (λ later. slice_cmp nat_cmp first later ≡ Less) words → slice_cmp nat_cmp first word ≡ Less
    → AllByRecursion (λ later. slice_cmp nat_cmp first later ≡ Less) (words ++ word ∷ [])
all_push first [] word all here = (here, tt)
all_push first (next ∷ words) word all here = (all.0, all_push first words word all.1 here)

pub sorted_push : (words : List (List ℕ)) (word : List ℕ) → IsStrictlySortedBy (slice_cmp nat_cmp) words → AllBefore words word → IsStrictlySortedBy (slice_cmp nat_cmp) (words ++ word ∷ [])
unfolding IsStrictlySortedBy
sorted_push [] word sorted before = (tt, tt)
sorted_push (first ∷ words) word sorted before = (all_push first words word sorted.0 before.0, sorted_push words word sorted.1 before.1)

-- words before one that is before another, and itself
pub all_before_next : (words : List (List ℕ)) (word next : List ℕ) → AllBefore words word → slice_cmp nat_cmp word next ≡ Less → AllBefore (words ++ word ∷ []) next
all_before_next [] word next before less = (less, tt)
all_before_next (first ∷ words) word next before less = (nat_list_cmp_total.trans first word next before.0 less, all_before_next words word next before.1 less)
