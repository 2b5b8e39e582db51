-- The effect of one more term of a query on the match and the score of a page.
use Rattle.std.proofs.Common.{◌≡◌, ℕ, ◌+◌, ◌<◌, Bool, true, false, cond, not, List, [], ◌∷◌, ◌++◌, length, take, get_or, refl, sym, ap, ◌∙◌, arith}
use Rattle.std.specs.Prelude.{nat_lt}
use Rattle.std.specs.List.{sum_by}
use Rattle.std.proofs.lemmas.List.{take_more}
use Rattle.std.proofs.lemmas.List.Sums.{sum_by-cons, sum_by-append, fold-append}
use Rattle.gopher_page.specs.Query.{TermData, joined, is_not, wanted, count_of_term, matches, score}
use Rattle.gopher_page.specs.declared.query.Operator.{Operator}
use Rattle.gopher_page.proofs.Terms.{wanted_none, wanted_push}

-- the score that a term adds
abbrev pub added : Operator → ℕ → ℕ
added operator count = cond (is_not operator) 0 count

module _ (counts : List (List ℕ × ℕ)) where
  pub matches_one_more : (terms : List TermData) (term : TermData) → matches (terms ++ term ∷ []) counts ≡ joined term.operator (matches terms counts) (nat_lt 0 (count_of_term counts term))
  unfolding matches
  matches_one_more terms term = fold-append (λ truth t. joined t.operator truth (nat_lt 0 (count_of_term counts t))) true terms (term ∷ [])

  -- the score of a list of terms
  abbrev total : List TermData → ℕ
  total terms = sum_by (count_of_term counts) (wanted terms)

  total_of_one : (term : TermData) → total (term ∷ []) ≡ added term.operator (count_of_term counts term)
  unfolding wanted
  total_of_one term = by (is_not term.operator)
    where
      by : (b : Bool) → sum_by (count_of_term counts) (cond (not b) (term ∷ []) []) ≡ cond b 0 (count_of_term counts term)
      by true = refl
      by false = omega (arith, sum_by-cons (count_of_term counts) term [])

  pub score_one_more : (terms : List TermData) (term : TermData) → score (terms ++ term ∷ []) counts ≡ score terms counts + added term.operator (count_of_term counts term)
  unfolding score
  score_one_more terms term =
      ap (sum_by (count_of_term counts)) (wanted_push terms term) ∙ sum_by-append (count_of_term counts) (wanted terms) (wanted (term ∷ []))
      ∙ ap (λ n. total terms + n) (total_of_one term)

  -- the score after the next term
  pub score_next : (terms : List TermData) (i : ℕ) (term : TermData) → i < length terms → term ≡ get_or terms i term → score (take (i + 1) terms) counts ≡ score (take i terms) counts + added term.operator (count_of_term counts term)
  score_next terms i term within is =
      ap (λ l. score l counts) (take_more terms i term within ∙ ap (λ t. take i terms ++ t ∷ []) (sym is)) ∙ score_one_more (take i terms) term

  pub score_of_none : score [] counts ≡ 0
  unfolding score
  score_of_none = ap (sum_by (count_of_term counts)) wanted_none

  pub all_match : matches [] counts ≡ true
  unfolding matches
  all_match = refl
