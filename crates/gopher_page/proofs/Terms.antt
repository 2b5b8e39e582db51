-- The effects of the terms of a query, one by one.
use Rattle.std.proofs.Common.{◌≡◌, ◌⊎◌, ℕ, zero, suc, ◌+◌, ◌-◌, ◌<◌, ◌≤◌, Bool, true, false, cond, not, List, [], ◌∷◌, ◌++◌, length, map, filter, take, drop, get_or, slice_get, Some, None, count_by, refl, sym, ap, ◌∙◌, inl, inr, arith}
use Rattle.std.specs.Prelude.{nat_lt}
use Rattle.std.proofs.Math.Bool.{or-false}
use Rattle.std.proofs.lemmas.Bool.{and_parts, or_right}
use Rattle.std.proofs.lemmas.List.{take_all, drop_more, drop_all}
use Rattle.std.proofs.lemmas.List.Elements.{filter-append}
use Rattle.std.proofs.lemmas.List.Sums.{length-filter}
use Rattle.std.specs.List.{fold, list_any}
use Rattle.gopher_page.specs.declared.query.Operator.{Operator}
use Rattle.gopher_page.specs.declared.query.Operator.TheVariants.{And, Or, Not}
use Rattle.gopher_page.specs.Query.{TermData, BeginsWithAnd, HasWanted, count_of_term, joined, is_not, wanted, matches, query_of, terms_of}
use Rattle.gopher_page.specs.Words.{token_of, word_runs}

module _ (counts : List (List ℕ × ℕ)) where
  -- if the first term is without `not` and matches, some term without `not` matches
  any_here : (term : TermData) (terms : List TermData) → not (is_not term.operator) ≡ true → nat_lt 0 (count_of_term counts term) ≡ true
      → list_any (λ t. nat_lt 0 (count_of_term counts t)) (wanted (term ∷ terms)) ≡ true
  unfolding wanted
  any_here term terms kept here = rw (kept, here)

  any_later : (term : TermData) (terms : List TermData) → list_any (λ t. nat_lt 0 (count_of_term counts t)) (wanted terms) ≡ true
      → list_any (λ t. nat_lt 0 (count_of_term counts t)) (wanted (term ∷ terms)) ≡ true
  unfolding wanted
  any_later term terms later = by (not (is_not term.operator))
    where
      by : (b : Bool) → list_any (λ t. nat_lt 0 (count_of_term counts t)) (cond b (term ∷ filter (λ t. not (is_not t.operator)) terms) (filter (λ t. not (is_not t.operator)) terms)) ≡ true
      by true = or_right (nat_lt 0 (count_of_term counts term)) _ later
      by false = later

  -- if the terms match in the end, the terms before matched or a term without `not` does
  whence : (truth : Bool) (terms : List TermData) → fold (λ t term. joined term.operator t (nat_lt 0 (count_of_term counts term))) truth terms ≡ true
      → (truth ≡ true) ⊎ (list_any (λ t. nat_lt 0 (count_of_term counts t)) (wanted terms) ≡ true)
  whence truth [] h = inl h
  whence truth (term ∷ terms) h = by (whence (joined term.operator truth (nat_lt 0 (count_of_term counts term))) terms h)
    where
      first : (operator : Operator) (b : Bool) → term.operator ≡ operator → nat_lt 0 (count_of_term counts term) ≡ b → joined operator truth b ≡ true
          → (truth ≡ true) ⊎ (list_any (λ t. nat_lt 0 (count_of_term counts t)) (wanted (term ∷ terms)) ≡ true)
      first And b o e g = inl (and_parts truth b g).0
      first Or true o e g = inr (any_here term terms (ap (λ p. not (is_not p)) o) e)
      first Or false o e g = inl (sym (or-false truth) ∙ g)
      first Not b o e g = inl (and_parts truth (not b) g).0

      by : (joined term.operator truth (nat_lt 0 (count_of_term counts term)) ≡ true) ⊎ (list_any (λ t. nat_lt 0 (count_of_term counts t)) (wanted terms) ≡ true)
          → (truth ≡ true) ⊎ (list_any (λ t. nat_lt 0 (count_of_term counts t)) (wanted (term ∷ terms)) ≡ true)
      by (inl now) = first term.operator (nat_lt 0 (count_of_term counts term)) refl refl now
      by (inr later) = inr (any_later term terms later)

-- a matching page contains a word of a term without `not`
pub matches_wanted : (terms : List TermData) (counts : List (List ℕ × ℕ)) → BeginsWithAnd terms → matches terms counts ≡ true → HasWanted terms counts
unfolding matches
matches_wanted [] counts first h = absurd first
matches_wanted (term ∷ terms) counts first h = by (whence counts (joined term.operator true (nat_lt 0 (count_of_term counts term))) terms h)
  where
    held : (operator : Operator) (b : Bool) → operator ≡ And → joined operator true b ≡ true → b ≡ true
    held And b e g = g
    held Or b e g = absurd cc
    held Not b e g = absurd cc

    by : (joined term.operator true (nat_lt 0 (count_of_term counts term)) ≡ true) ⊎ (list_any (λ t. nat_lt 0 (count_of_term counts t)) (wanted terms) ≡ true) → HasWanted (term ∷ terms) counts
    by (inl now) = any_here counts term terms (ap (λ p. not (is_not p)) first) (held term.operator (nat_lt 0 (count_of_term counts term)) first now)
    by (inr later) = any_later counts term terms later

-- ---- terms without `not`

-- adding a term to a list
pub wanted_push : (terms : List TermData) (term : TermData) → wanted (terms ++ term ∷ []) ≡ wanted terms ++ wanted (term ∷ [])
unfolding wanted
wanted_push terms term = filter-append (λ t. not (is_not t.operator)) terms (term ∷ [])

-- a list that begins with a term without `not`
pub wanted_kept : (term : TermData) (terms : List TermData) → not (is_not term.operator) ≡ true → wanted (term ∷ terms) ≡ term ∷ wanted terms
unfolding wanted
wanted_kept term terms kept = rw kept

pub wanted_passed : (term : TermData) (terms : List TermData) → not (is_not term.operator) ≡ false → wanted (term ∷ terms) ≡ wanted terms
unfolding wanted
wanted_passed term terms passed = rw passed

pub wanted_none : wanted [] ≡ []
unfolding wanted
wanted_none = refl

-- ---- loops over the terms

-- the rest of the terms begins with the next one
rest_at : (terms : List TermData) (i : ℕ) (term : TermData) → i < length terms → term ≡ get_or terms i term → drop i terms ≡ term ∷ drop (i + 1) terms
rest_at terms i term within is = drop_more terms i term within ∙ ap (λ t. t ∷ drop (i + 1) terms) (sym is)

pub wanted_here : (terms : List TermData) (i : ℕ) (term : TermData) → i < length terms → term ≡ get_or terms i term → not (is_not term.operator) ≡ true
    → slice_get (wanted (drop i terms)) 0 ≡ Some term
wanted_here terms i term within is kept = ap (λ l. slice_get l 0) (ap wanted (rest_at terms i term within is) ∙ wanted_kept term (drop (i + 1) terms) kept)

pub wanted_next : (terms : List TermData) (i : ℕ) (term : TermData) (left : ℕ) → i < length terms → term ≡ get_or terms i term → not (is_not term.operator) ≡ true → (left ≡ 0 → ⊥)
    → slice_get (wanted (drop (i + 1) terms)) (left - 1) ≡ slice_get (wanted (drop i terms)) left
wanted_next terms i term zero within is kept some = absurd (some refl)
wanted_next terms i term (suc left) within is kept some =
    let less : suc left - 1 ≡ left = omega arith in
    ap (slice_get (wanted (drop (i + 1) terms))) less
    ∙ sym (ap (λ l. slice_get l (suc left)) (ap wanted (rest_at terms i term within is) ∙ wanted_kept term (drop (i + 1) terms) kept))

pub wanted_skip : (terms : List TermData) (i : ℕ) (term : TermData) (left : ℕ) → i < length terms → term ≡ get_or terms i term → not (is_not term.operator) ≡ false
    → slice_get (wanted (drop (i + 1) terms)) left ≡ slice_get (wanted (drop i terms)) left
wanted_skip terms i term left within is passed = ap (λ l. slice_get l left) (sym (ap wanted (rest_at terms i term within is) ∙ wanted_passed term (drop (i + 1) terms) passed))

found_within : {X : Type 0} (xs : List X) (i : ℕ) → i < length xs → slice_get xs i ≡ None → ⊥
found_within [] i within none = omega arith
found_within (x ∷ xs) zero within none = cc
found_within (x ∷ xs) (suc i) within none = found_within xs i (omega arith) none

pub wanted_end : (terms : List TermData) (i left index : ℕ) → length terms ≤ i → index < length (wanted terms) → slice_get (wanted (drop i terms)) left ≡ slice_get (wanted terms) index → ⊥
wanted_end terms i left index past within same =
    let nothing : wanted (drop i terms) ≡ [] = ap wanted (drop_all i terms past) ∙ wanted_none in
    found_within (wanted terms) index within (sym same ∙ ap (λ l. slice_get l left) nothing)

-- ---- reading

pub query_of-runs : (text : List ℕ) (runs : List (List ℕ × Bool)) → word_runs text ≡ runs → query_of text ≡ terms_of (map token_of runs)
unfolding query_of
query_of-runs text runs e = ap (λ r. terms_of (map token_of r)) e

pub matches_all : (terms : List TermData) (counts : List (List ℕ × ℕ)) (i : ℕ) → length terms ≤ i → fold (λ t term. joined term.operator t (nat_lt 0 (count_of_term counts term))) true (take i terms) ≡ matches terms counts
unfolding matches
matches_all terms counts i past = ap (fold (λ t term. joined term.operator t (nat_lt 0 (count_of_term counts term))) true) (take_all i terms past)

pub length-wanted : (terms : List TermData) → count_by (λ term. not (is_not term.operator)) terms ≡ length (wanted terms)
unfolding wanted
length-wanted terms = sym (length-filter (λ term. not (is_not term.operator)) terms)
