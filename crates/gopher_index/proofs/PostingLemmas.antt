-- A query of one term.
use Rattle.std.proofs.Common.{◌≡◌, ℕ, zero, suc, ◌+◌, ◌<◌, ◌≤◌, Bool, true, false, cond, refl, List, [], ◌∷◌, length, get_or, set, sym, ap, subst, ◌∙◌, arith}
use Rattle.std.proofs.lemmas.List.Sums.{sum_by-le-sum_by}
use Rattle.std.specs.List.{All}
use Rattle.gopher_page.specs.Counts.{count_meant, is_meant}
use Rattle.gopher_page.specs.Packed.{AreCounts}
use Rattle.std.specs.Prelude.{Option, None, Some, IfSome, nat_lt}
use Rattle.gopher_page.specs.Page.{PageData}
use Rattle.gopher_page.specs.Query.{TermData, count_of_term, joined, matches, score}
use Rattle.gopher_page.specs.declared.query.Operator.TheVariants.{And}
use Rattle.gopher_segment.specs.Postings.{IsPostingListOf, run_of}
use Rattle.gopher_segment.specs.Segment.{SegmentData, meant_counts}
use Rattle.gopher_segment.specs.declared.postings.Postings.{Postings}
use Rattle.gopher_index.specs.ByPostings.{IsListOf}
use Rattle.gopher_index.specs.Plan.{term_counts}
use Rattle.gopher_page.proofs.OneMoreTerm.{added, matches_one_more, score_one_more, score_of_none, all_match}

pub meant_is_term : (term : TermData) (pages : List PageData) → meant_counts term.is_prefix term.word pages ≡ term_counts term pages
unfolding count_of_term
meant_is_term term pages = refl

module _ (term : TermData) (and : term.operator ≡ And) (counts : List (List ℕ × ℕ)) where
  pub one_matches : matches (term ∷ []) counts ≡ nat_lt 0 (count_of_term counts term)
  one_matches = matches_one_more counts [] term ∙ (λ i. joined (and i) (all_match counts i) (nat_lt 0 (count_of_term counts term)))

  pub one_scores : score (term ∷ []) counts ≡ count_of_term counts term
  one_scores =
      let none : score [] counts ≡ 0 = score_of_none counts in
      let more : score [] counts + added term.operator (count_of_term counts term) ≡ count_of_term counts term = ap (λ operator. score [] counts + added operator (count_of_term counts term)) and ∙ plain none in
      score_one_more counts [] term ∙ more
    where
      plain : score [] counts ≡ 0 → score [] counts + count_of_term counts term ≡ count_of_term counts term
      plain none = omega arith

pub alone_is : (terms : List TermData) (term : TermData) → length terms ≡ 1 → term ≡ get_or terms 0 term → terms ≡ term ∷ []
alone_is [] term one is = absurd (omega (arith, one))
alone_is (t ∷ []) term one is = ap (λ x. x ∷ []) (sym is)
alone_is (t ∷ u ∷ terms) term one is = absurd (omega (arith, one))

-- the posting list of the only term
pub listed : (terms : List TermData) (segment : SegmentData) (term : TermData) (word : List ℕ) (list : Option Postings) → terms ≡ term ∷ [] → term.operator ≡ And → term.is_prefix ≡ false → word ≡ term.word
    → IfSome list (IsPostingListOf word segment.pages) → IfSome list (λ postings. length postings.counts.now ≡ length postings.numbers.now) → IfSome list (IsListOf terms segment)
listed terms segment term word None alone and plain same run beside = tt
listed terms segment term word (Some list) alone and plain same run beside = record {
  term = term;
  alone = alone;
  and = and;
  run = run ∙ (λ i. run_of list.first (meant_counts (sym plain i) (same i) segment.pages)) ∙ ap (run_of list.first) (meant_is_term term segment.pages);
  beside = beside;
}

-- ---- counts of one page

at_most : (b : Bool) (n : ℕ) → cond b n 0 ≤ n
at_most true n = omega arith
at_most false n = omega arith

-- a page has a word, or the words that begin with one, at most `MAX_REPLY` times
pub meant_few : (is_prefix : Bool) (sought : List ℕ) (counts : List (List ℕ × ℕ)) (count : ℕ) → count ≡ count_meant is_prefix sought counts → AreCounts counts → count ≤ 1048576
unfolding count_meant
meant_few is_prefix sought counts count is sound =
    omega (arith, is, sound.few, sum_by-le-sum_by (λ (e : List ℕ × ℕ). cond (is_meant is_prefix sought e.0) e.1 0) (λ (e : List ℕ × ℕ). e.1) counts (λ e. at_most (is_meant is_prefix sought e.0) e.1))

pub few_in_one : (cells : List ℕ) (count : ℕ) → cells ≡ 0 ∷ [] → count ≤ 1048576 → All (λ c. c ≤ 1048576) (set cells 0 count)
few_in_one cells count one few k d within = by k (subst (λ l. k < length (set l 0 count)) one within)
  where
    by : (k : ℕ) → k < length (set (0 ∷ []) 0 count) → get_or (set cells 0 count) k d ≤ 1048576
    by zero within = subst (λ l. get_or (set l 0 count) 0 d ≤ 1048576) (sym one) few
    by (suc k) within = absurd (omega (arith, within))
