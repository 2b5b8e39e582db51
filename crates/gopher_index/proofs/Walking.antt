-- Going through the postings of a term.
use Rattle.std.proofs.Common.{◌≡◌, ◌⊎◌, ℕ, zero, suc, ◌+◌, ◌-◌, ◌≤◌, ◌<◌, Bool, true, false, min, List, [], ◌∷◌, ◌++◌, length, take, drop, get_or, refl, sym, ap, subst, ◌∙◌, inl, inr, arith}
use Rattle.std.specs.Prelude.{Some, nat_le, nat_lt, slice_get}
use Rattle.std.specs.List.{AllByRecursion, list_any, zip}
use Rattle.std.proofs.lemmas.Bool.{eqb-true, eq-eqb, both_ways}
use Rattle.std.proofs.lemmas.List.{append_assoc, length-append, drop_more, drop_all}
use Rattle.std.proofs.lemmas.List.Elements.{All-from_recursion}
use Rattle.std.proofs.lemmas.Slice.Zip.{get_or-zip, length-zip}
use Rattle.gopher_page.specs.Page.{PageData}
use Rattle.gopher_page.specs.Query.{TermData, count_of_term}
use Rattle.gopher_page.specs.declared.query.Operator.TheVariants.{And}
use Rattle.gopher_index.specs.Best.{BestData, lowest_score, TakesIn}
use Rattle.gopher_index.specs.Plan.{term_counts}
use Rattle.gopher_index.specs.ByPostings.{is_again, Walk}
use Rattle.gopher_segment.specs.Postings.{run_of}
use Rattle.gopher_index.proofs.Blocks.{neither_left, neither_right}
use Rattle.gopher_index.proofs.PostingLemmas.{one_matches, one_scores}
use Rattle.gopher_segment.proofs.Pieces.{run_within}
use Rattle.gopher_index.proofs.NextPages.{HaveNone, NextPage, next_page_of, none_left}
use Rattle.gopher_index.proofs.Taking.{takes_none, takes_both, takes_below, takes_unmatched}

pub is_again-at : (numbers : List ℕ) (index : ℕ) → 0 < index → get_or numbers (index - 1) 0 ≡ get_or numbers index 0 → is_again numbers index ≡ true
is_again-at numbers zero some same = absurd (omega (arith, some))
is_again-at numbers (suc index) some same =
    let plain : suc index - 1 ≡ index = omega arith in
    eq-eqb (get_or numbers index 0) (get_or numbers (suc index) 0) (ap (λ n. get_or numbers n 0) (sym plain) ∙ same)

pub is_again-from : (numbers : List ℕ) (index : ℕ) → is_again numbers index ≡ true → (0 < index) × (get_or numbers (index - 1) 0 ≡ get_or numbers index 0)
is_again-from numbers zero e = absurd cc
is_again-from numbers (suc index) e =
    let plain : suc index - 1 ≡ index = omega arith in
    (omega arith, ap (λ n. get_or numbers n 0) plain ∙ eqb-true (get_or numbers index 0) (get_or numbers (suc index) 0) e)

module _ (term : TermData) (and : term.operator ≡ And) where
  -- pages without the word
  pub takes_without : (best : BestData) (pages : List PageData) → HaveNone term pages → TakesIn (term ∷ []) pages best best
  takes_without best [] none = takes_none (term ∷ []) best
  takes_without best (page ∷ pages) none =
      takes_both (term ∷ []) (page ∷ []) pages best best best (takes_unmatched (term ∷ []) page best (one_matches term and page.counts ∙ ap (nat_lt 0) none.0)) (takes_without best pages none.1)

  module _ (first : ℕ) (pages : List PageData) (numbers counts : List ℕ) (beside : length counts ≡ length numbers) (old : BestData) where
    -- before the first posting
    pub walk_start : zip numbers counts ≡ run_of first (term_counts term pages) → Walk term first pages numbers counts old old 0
    walk_start run =
        let plain : first ≡ first + 0 = omega arith in
        record {
          passed = [];
          ahead = pages;
          left = [];
          whole = refl;
          rest = run ∙ ap (λ n. run_of n (term_counts term pages)) plain;
          same = tt;
          behind = inl (refl, refl);
          taken = takes_none (term ∷ []) old;
        }

    -- the posting at an index, and those behind it
    here : (index : ℕ) → index < length numbers → drop index (zip numbers counts) ≡ (get_or numbers index 0, get_or counts index 0) ∷ drop (index + 1) (zip numbers counts)
    here index within =
        let both : index < length (zip numbers counts) = omega (arith, length-zip numbers counts) in
        drop_more (zip numbers counts) index (0, 0) both ∙ ap (λ p. p ∷ drop (index + 1) (zip numbers counts)) (get_or-zip numbers counts index (0, 0) within (omega arith))

    -- the page whose first posting is at the index
    pub record Turn (now : BestData) (index : ℕ) : Type 0 where
      pub before : List PageData
      pub page : PageData
      pub after : List PageData
      pub whole : pages ≡ before ++ page ∷ after
      pub number : get_or numbers index 0 ≡ first + length before
      pub count : get_or counts index 0 ≡ min (count_of_term page.counts term) 255
      pub some : 0 < count_of_term page.counts term
      pub go : (new : BestData) → TakesIn (term ∷ []) (page ∷ []) now new → Walk term first pages numbers counts old new (index + 1)

    module _ (now : BestData) (index : ℕ) (within : index < length numbers) (walk : Walk term first pages numbers counts old now index) where
      split : (get_or numbers index 0, get_or counts index 0) ∷ drop (index + 1) (zip numbers counts) ≡ walk.left ++ run_of (first + length walk.passed) (term_counts term walk.ahead)
      split = sym (here index within) ∙ walk.rest

      -- what is left of the page before begins with the posting
      again_step : (p : ℕ × ℕ) (left : List (ℕ × ℕ)) → walk.left ≡ p ∷ left → Walk term first pages numbers counts old now (index + 1)
      again_step p left e =
          let same : AllByRecursion (λ posting. suc posting.0 ≡ first + length walk.passed) (p ∷ left) = subst (λ l. AllByRecursion (λ (posting : ℕ × ℕ). suc posting.0 ≡ first + length walk.passed) l) e walk.same in
          let parts : (get_or numbers index 0, get_or counts index 0) ∷ drop (index + 1) (zip numbers counts) ≡ p ∷ (left ++ run_of (first + length walk.passed) (term_counts term walk.ahead)) =
          split ∙ ap (λ l. l ++ run_of (first + length walk.passed) (term_counts term walk.ahead)) e in
          let first_is : (get_or numbers index 0, get_or counts index 0) ≡ p = cc in
          let rest_is : drop (index + 1) (zip numbers counts) ≡ left ++ run_of (first + length walk.passed) (term_counts term walk.ahead) = cc in
          let plain : index ≡ index + 1 - 1 = omega arith in
          record {
            passed = walk.passed;
            ahead = walk.ahead;
            left = left;
            whole = walk.whole;
            rest = rest_is;
            same = same.1;
            behind = inr (omega arith, ap (λ n. suc (get_or numbers n 0)) (sym plain) ∙ ap (λ (q : ℕ × ℕ). suc q.0) first_is ∙ same.0);
            taken = walk.taken;
          }

      -- the next page begins with it
      next_of : walk.left ≡ [] → NextPage term (first + length walk.passed) walk.ahead (get_or numbers index 0, get_or counts index 0) (drop (index + 1) (zip numbers counts))
      next_of none =
          next_page_of term (first + length walk.passed) walk.ahead (get_or numbers index 0, get_or counts index 0) (drop (index + 1) (zip numbers counts)) (split ∙ ap (λ l. l ++ run_of (first + length walk.passed) (term_counts term walk.ahead)) none)

      turn_of : walk.left ≡ [] → Turn now index
      turn_of none =
          let next = next_of none in
          let count_to : first + length (walk.passed ++ next.none) ≡ first + length walk.passed + length next.none = omega (arith, length-append walk.passed next.none) in
          let count_past : first + length ((walk.passed ++ next.none) ++ next.page ∷ []) ≡ suc (first + length walk.passed + length next.none) =
          omega (arith, length-append walk.passed next.none, length-append (walk.passed ++ next.none) (next.page ∷ [])) in
          let plain : index ≡ index + 1 - 1 = omega arith in
          let number_is : get_or numbers index 0 ≡ first + length walk.passed + length next.none = ap (λ (p : ℕ × ℕ). p.0) next.is in
          record {
            before = walk.passed ++ next.none;
            page = next.page;
            after = next.after;
            whole = walk.whole ∙ ap (λ l. walk.passed ++ l) next.whole ∙ sym (append_assoc walk.passed next.none (next.page ∷ next.after));
            number = number_is ∙ sym count_to;
            count = ap (λ (p : ℕ × ℕ). p.1) next.is;
            some = next.some;
            go = λ new takes. record {
              passed = (walk.passed ++ next.none) ++ next.page ∷ [];
              ahead = next.after;
              left = next.left;
              whole = walk.whole ∙ ap (λ l. walk.passed ++ l) next.whole ∙ sym (append_assoc walk.passed next.none (next.page ∷ next.after)) ∙ sym (append_assoc (walk.passed ++ next.none) (next.page ∷ []) next.after);
              rest = next.follows ∙ ap (λ n. next.left ++ run_of n (term_counts term next.after)) (sym count_past);
              same = one_more next.left next.same (sym count_past);
              behind = inr (omega arith, ap (λ n. suc (get_or numbers n 0)) (sym plain) ∙ ap suc number_is ∙ sym count_past);
              taken =
                  takes_both (term ∷ []) (walk.passed ++ next.none) (next.page ∷ []) old now new
                  (takes_both (term ∷ []) walk.passed next.none old now now walk.taken (takes_without now next.none next.without)) takes;
            };
          }
        where
          one_more : {n m : ℕ} (left : List (ℕ × ℕ)) → AllByRecursion (λ p. p.0 ≡ n) left → suc n ≡ m → AllByRecursion (λ p. suc p.0 ≡ m) left
          one_more [] all e = tt
          one_more (p ∷ left) all e = (ap suc all.0 ∙ e, one_more left all.1 e)

      pub walk_again : is_again numbers index ≡ true → Walk term first pages numbers counts old now (index + 1)
      walk_again again = by walk.left refl
        where
          by : (left : List (ℕ × ℕ)) → walk.left ≡ left → Walk term first pages numbers counts old now (index + 1)
          by (p ∷ left) e = again_step p left e
          by [] e = absurd (apart (ap (λ (p : ℕ × ℕ). p.0) (next_of e).is) (is_again-from numbers index again) walk.behind)
            where
              apart : get_or numbers index 0 ≡ first + length walk.passed + length (next_of e).none → (0 < index) × (get_or numbers (index - 1) 0 ≡ get_or numbers index 0)
                  → ((index ≡ 0) × (walk.left ≡ [])) ⊎ ((0 < index) × (suc (get_or numbers (index - 1) 0) ≡ first + length walk.passed)) → ⊥
              apart number from (inl start) = omega (arith, from.0, start.0)
              apart number from (inr past) = omega (arith, number, from.1, past.1)

      pub walk_turn : is_again numbers index ≡ false → Turn now index
      walk_turn new = by walk.left refl
        where
          by : (left : List (ℕ × ℕ)) → walk.left ≡ left → Turn now index
          by [] e = turn_of e
          by (p ∷ left) e =
              let same : AllByRecursion (λ (posting : ℕ × ℕ). suc posting.0 ≡ first + length walk.passed) (p ∷ left) = subst (λ l. AllByRecursion (λ (posting : ℕ × ℕ). suc posting.0 ≡ first + length walk.passed) l) e walk.same in
              let parts : (get_or numbers index 0, get_or counts index 0) ∷ drop (index + 1) (zip numbers counts) ≡ p ∷ (left ++ run_of (first + length walk.passed) (term_counts term walk.ahead)) =
              split ∙ ap (λ l. l ++ run_of (first + length walk.passed) (term_counts term walk.ahead)) e in
              let first_is : (get_or numbers index 0, get_or counts index 0) ≡ p = cc in
              absurd (apart (ap (λ (q : ℕ × ℕ). q.0) first_is) same.0 walk.behind)
            where
              apart : get_or numbers index 0 ≡ p.0 → suc p.0 ≡ first + length walk.passed → ((index ≡ 0) × (walk.left ≡ [])) ⊎ ((0 < index) × (suc (get_or numbers (index - 1) 0) ≡ first + length walk.passed)) → ⊥
              apart number last (inl start) = let none : p ∷ left ≡ [] = sym e ∙ start.1 in absurd cc
              apart number last (inr past) = both_ways (is_again numbers index) new (is_again-at numbers index past.0 (omega (arith, number, last, past.1)))

    -- a posting whose page can't come among the best
    pub walk_below : (now : BestData) (index : ℕ) → index < length numbers → get_or counts index 0 < 255 → get_or counts index 0 < lowest_score now → Walk term first pages numbers counts old now index
        → Walk term first pages numbers counts old now (index + 1)
    walk_below now index within small below walk = by (is_again numbers index) refl
      where
        by : (again : Bool) → is_again numbers index ≡ again → Walk term first pages numbers counts old now (index + 1)
        by true e = walk_again now index within walk e
        by false e =
            let turn = walk_turn now index within walk e in
            turn.go now (takes_below (term ∷ []) turn.page now (omega (arith, turn.count, one_scores term and turn.page.counts)))

    -- several of them
    pub walk_block : (now : BestData) (index more : ℕ) → index + more ≤ length numbers → ((k : ℕ) → k < more → (get_or counts (index + k) 0 < 255) × (get_or counts (index + k) 0 < lowest_score now)) → Walk term first pages numbers counts old now index
        → Walk term first pages numbers counts old now (index + more)
    walk_block now index zero within below walk = let plain : index ≡ index + 0 = omega arith in subst (λ n. Walk term first pages numbers counts old now n) plain walk
    walk_block now index (suc more) within below walk =
        let here : index + 0 ≡ index = omega arith in
        let later : index + 1 + more ≡ index + suc more = omega arith in
        let first_below = below 0 (omega arith) in
        let step : Walk term first pages numbers counts old now (index + 1) =
        walk_below now index (omega arith) (subst (λ n. get_or counts n 0 < 255) here first_below.0) (subst (λ n. get_or counts n 0 < lowest_score now) here first_below.1) walk in
        subst (λ n. Walk term first pages numbers counts old now n) later
        (walk_block now (index + 1) more (omega arith) (λ k less. let shift : index + suc k ≡ index + 1 + k = omega arith in subst (λ n. (get_or counts n 0 < 255) × (get_or counts n 0 < lowest_score now)) shift (below (suc k) (omega arith))) step)

    -- behind the last posting
    pub walk_end : (now : BestData) (index : ℕ) → length numbers ≤ index → Walk term first pages numbers counts old now index → TakesIn (term ∷ []) pages old now
    walk_end now index past walk =
        subst (λ l. TakesIn (term ∷ []) l old now) (sym walk.whole)
        (takes_both (term ∷ []) walk.passed walk.ahead old now now walk.taken (takes_without now walk.ahead (none_left term (first + length walk.passed) walk.ahead (nothing walk.left (sym (drop_all index (zip numbers counts) (omega (arith, length-zip numbers counts))) ∙ walk.rest)))))
      where
        nothing : (left : List (ℕ × ℕ)) → [] ≡ left ++ run_of (first + length walk.passed) (term_counts term walk.ahead) → [] ≡ run_of (first + length walk.passed) (term_counts term walk.ahead)
        nothing [] e = e
        nothing (p ∷ left) e = absurd cc

-- the number of a posting is that of a page
pub number_within : (first : ℕ) (numbers counts page_counts : List ℕ) (index : ℕ) → length counts ≡ length numbers → zip numbers counts ≡ run_of first page_counts → index < length numbers
    → (first ≤ get_or numbers index 0) × (get_or numbers index 0 < first + length page_counts)
number_within first numbers counts page_counts index beside run within =
    let all = All-from_recursion (λ (posting : ℕ × ℕ). (first ≤ posting.0) × (posting.0 < first + length page_counts)) (zip numbers counts)
    (subst (λ l. AllByRecursion (λ (posting : ℕ × ℕ). (first ≤ posting.0) × (posting.0 < first + length page_counts)) l) (sym run) (run_within first page_counts)) in
    subst (λ (posting : ℕ × ℕ). (first ≤ posting.0) × (posting.0 < first + length page_counts)) (get_or-zip numbers counts index (0, 0) within (omega arith)) (all index (0, 0) (omega (arith, length-zip numbers counts)))

slice_get-middle : {X : Type 0} (before : List X) (x : X) (after : List X) → slice_get (before ++ x ∷ after) (length before) ≡ Some x
slice_get-middle [] x after = refl
slice_get-middle (y ∷ before) x after = slice_get-middle before x after

pub page_found : (pages before after : List PageData) (page : PageData) (number first : ℕ) → pages ≡ before ++ page ∷ after → number ≡ first + length before → slice_get pages (number - first) ≡ Some page
page_found pages before after page number first whole is =
    let offset : number - first ≡ length before = omega arith in
    (λ i. slice_get (whole i) (offset i)) ∙ slice_get-middle before page after

-- counts of which none reaches the lowest
pub counts_below : (lowest : ℕ) (counts : List ℕ) (start size : ℕ) → list_any (λ count. nat_le lowest count) (take size (drop start counts)) ≡ false → (k : ℕ) → k < size → start + k < length counts → get_or counts (start + k) 0 < lowest
counts_below lowest counts start size none k less within = at counts start none within
  where
    first_of : (counts : List ℕ) (size k : ℕ) → list_any (λ count. nat_le lowest count) (take size counts) ≡ false → k < size → k < length counts → get_or counts k 0 < lowest
    first_of [] size k none less within = absurd (omega (arith, within))
    first_of (count ∷ counts) zero k none less within = absurd (omega (arith, less))
    first_of (count ∷ counts) (suc size) zero none less within = grind (arith, neither_left (nat_le lowest count) (list_any (λ n. nat_le lowest n) (take size counts)) none)
    first_of (count ∷ counts) (suc size) (suc k) none less within = first_of counts size k (neither_right (nat_le lowest count) (list_any (λ n. nat_le lowest n) (take size counts)) none) (omega arith) (omega arith)

    at : (counts : List ℕ) (start : ℕ) → list_any (λ count. nat_le lowest count) (take size (drop start counts)) ≡ false → start + k < length counts → get_or counts (start + k) 0 < lowest
    at counts zero none within = let plain : k ≡ 0 + k = omega arith in subst (λ n. get_or counts n 0 < lowest) plain (first_of counts size k none less (omega arith))
    at [] (suc start) none within = absurd (omega (arith, within))
    at (count ∷ counts) (suc start) none within = let plain : suc (start + k) ≡ suc start + k = omega arith in subst (λ n. get_or (count ∷ counts) n 0 < lowest) plain (at counts start none (omega arith))
