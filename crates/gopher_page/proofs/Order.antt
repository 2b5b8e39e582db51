-- Words in byte order: the words that equal the sought one, or begin with it, form one run after
-- all words that come before it.
use Rattle.std.proofs.Common.{◌≡◌, ◌⊎◌, ℕ, ◌<◌, Bool, true, false, List, [], ◌∷◌, refl, sym, ap, subst, ◌∙◌, inl, inr, arith}
use Rattle.std.specs.Prelude.{nat_eq}
use Rattle.std.proofs.lemmas.Bool.{and_from, and_parts, both_ways, cases_order, eq-eqb, eqb-true, false_from_ne_true, le-ltb, lt-ltb, ne_eqb}
use Rattle.std.specs.List.{starts_with}
use Rattle.std.specs.Ordering.{nat_cmp, is_lt, ordering_then}
use Rattle.std.specs.declared.cmp.Ordering.{Ordering}
use Rattle.std.specs.declared.cmp.Ordering.TheVariants.{Less, Equal, Greater}
use Rattle.std.specs.Cmp.Lexicographic.{slice_cmp, bytes_decides, nat_list_cmp_total}
use Rattle.gopher_page.specs.Words.{same_word}
use Rattle.gopher_page.specs.Counts.{is_before, is_meant}

-- ---- by the first bytes

smaller : (x y : ℕ) (rest : Ordering) → x < y → is_lt (ordering_then (nat_cmp x y) rest) ≡ true
smaller x y rest h = rw (lt-ltb x y h)

larger : (x y : ℕ) (rest : Ordering) → y < x → is_lt (ordering_then (nat_cmp x y) rest) ≡ false
larger x y rest h = rw (le-ltb x y (omega arith), ne_eqb x y (omega arith))

level : (x : ℕ) (rest : Ordering) → is_lt (ordering_then (nat_cmp x x) rest) ≡ is_lt rest
level x rest = rw (le-ltb x x (omega arith), eq-eqb x x refl)

-- ---- prefixes

-- a word that begins with a prefix doesn't come before it
begins_past : (sought a : List ℕ) → starts_with nat_eq a sought ≡ true → is_before a sought ≡ false
begins_past [] [] e = refl
begins_past [] (y ∷ a) e = refl
begins_past (x ∷ sought) [] e = absurd (both_ways false refl e)
begins_past (x ∷ sought) (y ∷ a) e =
    let both = and_parts (nat_eq x y) (starts_with nat_eq a sought) e in
    let same : x ≡ y = eqb-true x y both.0 in
    subst (λ z. is_before (z ∷ a) (x ∷ sought) ≡ false) same (level x (slice_cmp nat_cmp a sought) ∙ begins_past sought a both.1)

-- a word before one that begins with a prefix comes before the prefix or begins with it
begins_before : (sought a b : List ℕ) → starts_with nat_eq b sought ≡ true → is_before a b ≡ true → is_before a sought ≡ false → starts_with nat_eq a sought ≡ true
begins_before [] a b e l h = refl
begins_before (x ∷ sought) a [] e l h = absurd (both_ways false refl e)
begins_before (x ∷ sought) [] (z ∷ b) e l h = absurd (both_ways true h refl)
begins_before (x ∷ sought) (y ∷ a) (z ∷ b) e l h = by (cases_order x y) (begins_before sought a b both.1)
  where
    both : (nat_eq x z ≡ true) × (starts_with nat_eq b sought ≡ true)
    both = and_parts (nat_eq x z) (starts_with nat_eq b sought) e

    below : is_before (y ∷ a) (x ∷ b) ≡ true
    below = subst (λ u. is_before (y ∷ a) (u ∷ b) ≡ true) (sym (eqb-true x z both.0)) l

    by : (x ≡ y) ⊎ ((x < y) ⊎ (y < x)) → (is_before a b ≡ true → is_before a sought ≡ false → starts_with nat_eq a sought ≡ true) → starts_with nat_eq (y ∷ a) (x ∷ sought) ≡ true
    by (inl same) rest =
        let less : is_before a b ≡ true = sym (level x (slice_cmp nat_cmp a b)) ∙ subst (λ u. is_before (u ∷ a) (x ∷ b) ≡ true) (sym same) below in
        let past : is_before a sought ≡ false = sym (level x (slice_cmp nat_cmp a sought)) ∙ subst (λ u. is_before (u ∷ a) (x ∷ sought) ≡ false) (sym same) h in
        and_from (nat_eq x y) (starts_with nat_eq a sought) (eq-eqb x y same) (rest less past)
    by (inr (inl more)) rest = absurd (both_ways _ (larger y x (slice_cmp nat_cmp a b) more) below)
    by (inr (inr less)) rest = absurd (both_ways _ h (smaller y x (slice_cmp nat_cmp a sought) less))

-- ---- words

never_before_itself : (a : List ℕ) → is_before a a ≡ false
never_before_itself [] = refl
never_before_itself (x ∷ a) = level x (slice_cmp nat_cmp a a) ∙ never_before_itself a

word_before : (sought a : List ℕ) → is_before a sought ≡ true → same_word sought a ≡ false
word_before sought a h =
    false_from_ne_true (same_word sought a) (λ e. both_ways _ (never_before_itself a) (subst (λ w. is_before a w ≡ true) ((bytes_decides sought a).0 e) h))

pub word_past : (sought a b : List ℕ) → is_before a sought ≡ false → is_before a b ≡ true → same_word sought b ≡ false
word_past sought a b h l =
    false_from_ne_true (same_word sought b) (λ e. both_ways _ h (subst (λ w. is_before a w ≡ true) (sym ((bytes_decides sought b).0 e)) l))

-- ---- equal words or prefixes

pub meant_before : (is_prefix : Bool) (sought a : List ℕ) → is_before a sought ≡ true → is_meant is_prefix sought a ≡ false
meant_before true sought a h = false_from_ne_true (starts_with nat_eq a sought) (λ e. both_ways _ (begins_past sought a e) h)
meant_before false sought a h = word_before sought a h

pub meant_past : (is_prefix : Bool) (sought a b : List ℕ) → is_before a sought ≡ false → is_meant is_prefix sought a ≡ false → is_before a b ≡ true → is_meant is_prefix sought b ≡ false
meant_past true sought a b h n l = false_from_ne_true (starts_with nat_eq b sought) (λ e. both_ways _ n (begins_before sought a b e l h))
meant_past false sought a b h n l = word_past sought a b h l

-- ---- the order

Less-from_before : (r : Ordering) → is_lt r ≡ true → r ≡ Less
Less-from_before Less e = refl
Less-from_before Equal e = absurd (both_ways false refl e)
Less-from_before Greater e = absurd (both_ways false refl e)

pub before-trans : (a b c : List ℕ) → is_before a b ≡ true → is_before b c ≡ true → is_before a c ≡ true
before-trans a b c h l =
    ap is_lt (nat_list_cmp_total.trans a b c (Less-from_before (slice_cmp nat_cmp a b) h) (Less-from_before (slice_cmp nat_cmp b c) l))

-- if a word doesn't come before c, neither does a word after it
pub not_before-trans : (a b c : List ℕ) → is_before a c ≡ false → is_before a b ≡ true → is_before b c ≡ false
not_before-trans a b c h l = false_from_ne_true (is_before b c) (λ e. both_ways _ h (before-trans a b c l e))
