-- The next page in which a word stands, by the postings that are left.
use Rattle.std.proofs.Common.{◌≡◌, ℕ, zero, suc, ◌+◌, ◌<◌, min, List, [], ◌∷◌, ◌++◌, length, refl, sym, ap, subst, ◌∙◌, arith}
use Rattle.std.specs.List.{AllByRecursion}
use Rattle.gopher_page.specs.Page.{PageData}
use Rattle.gopher_page.specs.Query.{TermData, count_of_term}
use Rattle.gopher_segment.specs.Postings.{pieces, run_of}
use Rattle.gopher_segment.proofs.Pieces.{BeginsPage, pieces_begin}
use Rattle.gopher_index.specs.Plan.{term_counts}

module _ (term : TermData) where
  abbrev pub HaveNone : List PageData → Type 0
  HaveNone pages = AllByRecursion (λ page. count_of_term page.counts term ≡ 0) pages

  -- the next page in which the word stands, by its first posting
  pub record NextPage (number : ℕ) (ahead : List PageData) (posting : ℕ × ℕ) (rest : List (ℕ × ℕ)) : Type 0 where
    pub none : List PageData
    pub page : PageData
    pub after : List PageData
    pub left : List (ℕ × ℕ)
    pub whole : ahead ≡ none ++ page ∷ after
    pub without : HaveNone none
    pub is : posting ≡ (number + length none, min (count_of_term page.counts term) 255)
    pub some : 0 < count_of_term page.counts term
    pub follows : rest ≡ left ++ run_of (suc (number + length none)) (term_counts term after)
    pub same : AllByRecursion (λ p. p.0 ≡ number + length none) left

  pub next_page_of : (number : ℕ) (ahead : List PageData) (posting : ℕ × ℕ) (rest : List (ℕ × ℕ)) → posting ∷ rest ≡ run_of number (term_counts term ahead) → NextPage number ahead posting rest
  next_page_of number [] posting rest e = absurd cc
  next_page_of number (page ∷ ahead) posting rest e = by (λ f. next_page_of (suc number) ahead posting rest f) (count_of_term page.counts term) refl e
    where
      later : count_of_term page.counts term ≡ 0 → NextPage (suc number) ahead posting rest → NextPage number (page ∷ ahead) posting rest
      later zero_here next =
          let shift : suc number + length next.none ≡ number + suc (length next.none) = omega arith in
          record {
            none = page ∷ next.none;
            page = next.page;
            after = next.after;
            left = next.left;
            whole = ap (λ l. page ∷ l) next.whole;
            without = (zero_here, next.without);
            is = next.is ∙ ap (λ n. (n, min (count_of_term next.page.counts term) 255)) shift;
            some = next.some;
            follows = next.follows ∙ ap (λ n. next.left ++ run_of (suc n) (term_counts term next.after)) shift;
            same = subst (λ n. AllByRecursion (λ p. p.0 ≡ n) next.left) shift next.same;
          }

      here : (count : ℕ) → count_of_term page.counts term ≡ count → 0 < count → BeginsPage number count (pieces number count) → posting ∷ rest ≡ pieces number count ++ run_of (suc number) (term_counts term ahead) → NextPage number (page ∷ ahead) posting rest
      here count is some begins e =
          let plain : number ≡ number + 0 = omega arith in
          let split : posting ∷ rest ≡ (number, min count 255) ∷ (begins.others ++ run_of (suc number) (term_counts term ahead)) = e ∙ ap (λ l. l ++ run_of (suc number) (term_counts term ahead)) begins.is in
          let first : posting ≡ (number, min count 255) = cc in
          let after : rest ≡ begins.others ++ run_of (suc number) (term_counts term ahead) = cc in
          record {
            none = [];
            page = page;
            after = ahead;
            left = begins.others;
            whole = refl;
            without = tt;
            is = first ∙ (λ i. (plain i, min (sym is i) 255));
            some = subst (λ n. 0 < n) (sym is) some;
            follows = after ∙ ap (λ n. begins.others ++ run_of (suc n) (term_counts term ahead)) plain;
            same = subst (λ n. AllByRecursion (λ p. p.0 ≡ n) begins.others) plain begins.same;
          }

      by : (posting ∷ rest ≡ run_of (suc number) (term_counts term ahead) → NextPage (suc number) ahead posting rest) → (count : ℕ) → count_of_term page.counts term ≡ count → posting ∷ rest ≡ run_of number (count ∷ term_counts term ahead)
          → NextPage number (page ∷ ahead) posting rest
      by others zero is e = later is (others e)
      by others (suc count) is e = here (suc count) is (omega arith) (pieces_begin number (suc count) (omega arith)) e

  -- pages of which no posting is left
  pub none_left : (number : ℕ) (ahead : List PageData) → [] ≡ run_of number (term_counts term ahead) → HaveNone ahead
  none_left number [] e = tt
  none_left number (page ∷ ahead) e = by (λ f. none_left (suc number) ahead f) (count_of_term page.counts term) refl e
    where
      by : ([] ≡ run_of (suc number) (term_counts term ahead) → HaveNone ahead) → (count : ℕ) → count_of_term page.counts term ≡ count → [] ≡ run_of number (count ∷ term_counts term ahead) → HaveNone (page ∷ ahead)
      by others zero is e = (is, others e)
      by others (suc count) is e =
          let begins = pieces_begin number (suc count) (omega arith) in
          let split : [] ≡ (number, min (suc count) 255) ∷ (begins.others ++ run_of (suc number) (term_counts term ahead)) = e ∙ ap (λ l. l ++ run_of (suc number) (term_counts term ahead)) begins.is in
          absurd cc
