-- Numbers of words decide which comes first.
use Rattle.std.proofs.Common.{◌≡◌, ◌⊎◌, ℕ, Bool, true, false, ◌+◌, ◌<◌, ◌≤◌, List, [], ◌∷◌, length, get_or, Option, Some, None, refl, sym, ap, subst, ◌∙◌, inl, inr, arith}
use Rattle.std.proofs.lemmas.Bool.{both_ways, cases_lt}
use Rattle.std.proofs.lemmas.List.{get_or_default}
use Rattle.std.specs.Ordering.{is_lt}
use Rattle.std.specs.Cmp.Lexicographic.{bytes_decides, nat_list_cmp_total}
use Rattle.gopher_page.specs.Numbered.{IsNumbered}
use Rattle.gopher_page.specs.Words.{same_word}
use Rattle.gopher_page.specs.Counts.{is_before}
use Rattle.gopher_page.proofs.Order.{before-trans}
use Rattle.gopher_page.proofs.Leading.{leading_less}
use Rattle.gopher_segment.specs.Rows.{first_word, is_at, LackBefore, NoneLower, is_lower}
use Rattle.gopher_segment.proofs.WordOrder.{never_before_itself, less_from_before}

lower_word : (own number : ℕ) (word low : List ℕ) → IsNumbered own word → IsNumbered number low → own < number → is_before word low ≡ true
lower_word own number word low is low_is below = ap is_lt (leading_less 8 word low is.bytes low_is.bytes (omega (arith, is.number_is, low_is.number_is)))

not_both : (word low : List ℕ) → is_before word low ≡ true → is_before low word ≡ true → ⊥
not_both word low a b = both_ways _ (never_before_itself word) (ap is_lt (nat_list_cmp_total.trans word low word (less_from_before word low a) (less_from_before low word b)))

-- a word with a higher number isn't lower
pub never_lower : (own number : ℕ) (word low : List ℕ) → IsNumbered own word → IsNumbered number low → number < own → is_before word low ≡ false
never_lower own number word low is low_is above = by (is_before word low) refl
  where
    by : (b : Bool) → is_before word low ≡ b → b ≡ false
    by true e = absurd (not_both word low e (lower_word number own low word low_is is above))
    by false e = refl

-- a word that isn't lower than the lowest isn't lower than one below that either
still_others : (low other : Option (List ℕ)) (word : Option (List ℕ)) → is_lower word low ≡ true → is_lower other low ≡ false → is_lower other word ≡ false
still_others low None word less from = refl
still_others low (Some other) None less from = absurd (both_ways _ refl less)
still_others None (Some other) (Some word) less from = absurd (both_ways _ from refl)
still_others (Some low) (Some other) (Some word) less from = by (is_before other word) refl
  where
    by : (b : Bool) → is_before other word ≡ b → b ≡ false
    by true e = absurd (both_ways _ from (before-trans other word low e less))
    by false e = refl

-- and isn't that one
lack_other : (low : Option (List ℕ)) (word : List ℕ) (rows : List (List ℕ × List (ℕ × ℕ))) → is_lower (Some word) low ≡ true → is_lower (first_word rows) low ≡ false → is_at word rows ≡ false
lack_other low word [] less from = refl
lack_other low word (row ∷ rows) less from = by (same_word row.0 word) refl
  where
    by : (b : Bool) → same_word row.0 word ≡ b → b ≡ false
    by true e = absurd (both_ways _ from (subst (λ w. is_lower (Some w) low ≡ true) (sym ((bytes_decides row.0 word).0 e)) less))
    by false e = refl

-- if there is a word, the table at an index is the first that begins with it
abbrev pub IsFirstAt : Option (List ℕ) → ℕ → List (List (List ℕ × List (ℕ × ℕ))) → Type 0
IsFirstAt None at tables = Unit {0}
IsFirstAt (Some word) at tables = (at < length tables) × (first_word (get_or tables at []) ≡ Some word) × LackBefore word at tables

never_itself : (word : Option (List ℕ)) → is_lower word word ≡ false
never_itself None = refl
never_itself (Some word) = never_before_itself word

-- what holds before an index, and at it, holds before the next
one_more : (P : List (List ℕ × List (ℕ × ℕ)) → Type 0) (tables : List (List (List ℕ × List (ℕ × ℕ)))) (rows : List (List ℕ × List (ℕ × ℕ))) (i : ℕ) → i < length tables → rows ≡ get_or tables i rows
    → ((k : ℕ) → k < i → P (get_or tables k [])) → P rows → (k : ℕ) → k < i + 1 → P (get_or tables k [])
one_more P tables rows i within is before here k below = by (cases_lt k i)
  where
    by : (k < i) ⊎ (i ≤ k) → P (get_or tables k [])
    by (inl less) = before k less
    by (inr past) =
        let same : i ≡ k = omega arith in
        subst (λ n. P (get_or tables n [])) same (subst P (is ∙ get_or_default tables i rows [] within) here)

module _ (low : Option (List ℕ)) (tables : List (List (List ℕ × List (ℕ × ℕ)))) (rows : List (List ℕ × List (ℕ × ℕ))) (i : ℕ) (within : i < length tables) (is : rows ≡ get_or tables i rows) where
  -- a table that begins with a lower word
  pub none_below : is_lower (first_word rows) low ≡ true → NoneLower low i tables → NoneLower (first_word rows) (i + 1) tables
  none_below less none =
      one_more (λ r. is_lower (first_word r) (first_word rows) ≡ false) tables rows i within is
      (λ k below. still_others low (first_word (get_or tables k [])) (first_word rows) less (none k below)) (never_itself (first_word rows))

  pub first_below : is_lower (first_word rows) low ≡ true → NoneLower low i tables → IsFirstAt (first_word rows) i tables
  first_below less none = by (first_word rows) refl less
    where
      by : (word : Option (List ℕ)) → first_word rows ≡ word → is_lower word low ≡ true → IsFirstAt word i tables
      by None e lower = tt
      by (Some word) e lower =
          (within, ap first_word (sym (is ∙ get_or_default tables i rows [] within)) ∙ e, λ k below. lack_other low word (get_or tables k []) lower (none k below))

  -- and one that doesn't
  pub none_beside : is_lower (first_word rows) low ≡ false → NoneLower low i tables → NoneLower low (i + 1) tables
  none_beside from none = one_more (λ r. is_lower (first_word r) low ≡ false) tables rows i within is none from
