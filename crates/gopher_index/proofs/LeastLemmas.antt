-- The best of those hits that reach a score, where they are as many as are answered, are the best
-- of all.
use Rattle.std.proofs.Common.{◌≡◌, ℕ, ◌≤◌, ◌<◌, Bool, true, false, cond, ◌||◌, ◌==◌, nat_le, List, [], ◌∷◌, ◌++◌, length, take, filter, refl, sym, ap, subst, ◌∙◌, arith}
use Rattle.std.specs.List.{fold, AllByRecursion}
use Rattle.std.specs.Ordering.{match_ordering, ordering_then}
use Rattle.std.specs.declared.cmp.Ordering.{Ordering}
use Rattle.std.specs.declared.cmp.Ordering.TheVariants.{Less, Equal, Greater}
use Rattle.std.specs.BTreeSet.{insert_key}
use Rattle.std.specs.Cmp.{nat_cmp_is}
use Rattle.std.proofs.lemmas.List.{length-take, take-append-le}
use Rattle.std.proofs.lemmas.Bool.{eqb-true, le-leb}
use Rattle.std.proofs.lemmas.List.Elements.{All-from_recursion, recursion_from_All}
use Rattle.std.proofs.lemmas.Map.Views.{All-insert_key}
use Rattle.gopher_item.specs.Place.{place_cmp}
use Rattle.gopher_page.specs.Page.{PageData}
use Rattle.gopher_page.specs.Query.{TermData}
use Rattle.gopher_index.specs.Answer.{rank_cmp, ranked, hits_among, answer_of}
use Rattle.gopher_index.specs.Best.{BestData, reaches, answer_from, is_whole}
use Rattle.gopher_index.specs.declared.hit.Hit.{Hit}

all_with : (P : Hit → Type 0) (hits : List Hit) (hit : Hit) → AllByRecursion P hits → P hit → AllByRecursion P (insert_key rank_cmp hits hit)
all_with P hits hit all here = recursion_from_All P (insert_key rank_cmp hits hit) (All-insert_key rank_cmp hit P hits (All-from_recursion P hits all) here)

module _ (least : ℕ) where
  abbrev IsHigh : Hit → Type 0
  IsHigh hit = least ≤ hit.score

  abbrev IsLow : Hit → Type 0
  IsLow hit = hit.score < least

  high_first : (high low : Hit) → IsHigh high → IsLow low → rank_cmp high low ≡ Less
  high_first high low above below = ap (λ o. ordering_then o (place_cmp high.place low.place)) (sym (nat_cmp_is low.score high.score Less (omega (arith, above, below))))

  low_last : (low high : Hit) → IsHigh high → IsLow low → rank_cmp low high ≡ Greater
  low_last low high above below = ap (λ o. ordering_then o (place_cmp low.place high.place)) (sym (nat_cmp_is high.score low.score Greater (omega (arith, above, below))))

  insert_high : (highs lows : List Hit) (hit : Hit) → AllByRecursion IsLow lows → IsHigh hit → insert_key rank_cmp (highs ++ lows) hit ≡ insert_key rank_cmp highs hit ++ lows
  insert_high [] [] hit all above = refl
  insert_high [] (low ∷ lows) hit all above = ap (λ o. match_ordering o (hit ∷ low ∷ lows) (low ∷ lows) (low ∷ insert_key rank_cmp lows hit)) (high_first hit low above all.0)
  insert_high (high ∷ highs) lows hit all above = by (rank_cmp hit high) (insert_high highs lows hit all above)
    where
      by : (o : Ordering) → insert_key rank_cmp (highs ++ lows) hit ≡ insert_key rank_cmp highs hit ++ lows
          → match_ordering o (hit ∷ high ∷ (highs ++ lows)) (high ∷ (highs ++ lows)) (high ∷ insert_key rank_cmp (highs ++ lows) hit) ≡ match_ordering o (hit ∷ high ∷ highs) (high ∷ highs) (high ∷ insert_key rank_cmp highs hit) ++ lows
      by Less rest = refl
      by Equal rest = refl
      by Greater rest = ap (λ l. high ∷ l) rest

  insert_low : (highs lows : List Hit) (hit : Hit) → AllByRecursion IsHigh highs → IsLow hit → insert_key rank_cmp (highs ++ lows) hit ≡ highs ++ insert_key rank_cmp lows hit
  insert_low [] lows hit all below = refl
  insert_low (high ∷ highs) lows hit all below =
      ap (λ o. match_ordering o (hit ∷ high ∷ (highs ++ lows)) (high ∷ (highs ++ lows)) (high ∷ insert_key rank_cmp (highs ++ lows) hit)) (low_last hit high all.0 below) ∙ ap (λ l. high ∷ l) (insert_low highs lows hit all.1 below)

  -- all hits are those that reach the score, and others behind them
  pub record Splits (hits highs lows : List Hit) : Type 0 where
    pub rest : List Hit
    pub whole : fold (insert_key rank_cmp) (highs ++ lows) hits ≡ fold (insert_key rank_cmp) highs (filter (reaches least) hits) ++ rest

  splits : (hits highs lows : List Hit) → AllByRecursion IsHigh highs → AllByRecursion IsLow lows → Splits hits highs lows
  splits [] highs lows high low = record { rest = lows; whole = refl }
  splits (hit ∷ hits) highs lows high low = by (nat_le least hit.score) refl (splits hits)
    where
      by : (b : Bool) → nat_le least hit.score ≡ b → ((highs lows : List Hit) → AllByRecursion IsHigh highs → AllByRecursion IsLow lows → Splits hits highs lows) → Splits (hit ∷ hits) highs lows
      by true kept later =
          let above : IsHigh hit = grind (arith, kept) in
          let more = later (insert_key rank_cmp highs hit) lows (all_with IsHigh highs hit high above) low in
          record {
            rest = more.rest;
            whole = ap (λ l. fold (insert_key rank_cmp) l hits) (insert_high highs lows hit low above) ∙ more.whole
                ∙ ap (λ b. fold (insert_key rank_cmp) highs (cond b (hit ∷ filter (reaches least) hits) (filter (reaches least) hits)) ++ more.rest) (sym kept);
          }
      by false left_out later =
          let below : IsLow hit = grind (arith, left_out) in
          let more = later highs (insert_key rank_cmp lows hit) high (all_with IsLow lows hit low below) in
          record {
            rest = more.rest;
            whole = ap (λ l. fold (insert_key rank_cmp) l hits) (insert_low highs lows hit high below) ∙ more.whole
                ∙ ap (λ b. fold (insert_key rank_cmp) highs (cond b (hit ∷ filter (reaches least) hits) (filter (reaches least) hits)) ++ more.rest) (sym left_out);
          }

  pub whole_answer : (pages : List PageData) (terms : List TermData) → 50 ≤ length (answer_from least pages terms) → answer_from least pages terms ≡ answer_of pages terms
  unfolding answer_from answer_of ranked
  whole_answer pages terms full =
      let split = splits (hits_among terms pages) [] [] tt tt in
      let kept : List Hit = fold (insert_key rank_cmp) [] (filter (reaches least) (hits_among terms pages)) in
      let many : 50 ≤ length kept = omega (arith, full, length-take 50 kept) in
      sym (take-append-le 50 kept split.rest many) ∙ ap (take 50) (sym split.whole)

-- every score reaches 0
filter_all : (hits : List Hit) → filter (reaches 0) hits ≡ hits
filter_all [] = refl
filter_all (hit ∷ hits) =
    let kept : 0 ≤ hit.score = omega arith in
    ap (λ b. cond b (hit ∷ filter (reaches 0) hits) (filter (reaches 0) hits)) (le-leb 0 hit.score kept) ∙ ap (λ l. hit ∷ l) (filter_all hits)

pub answer_from_0 : (pages : List PageData) (terms : List TermData) → answer_from 0 pages terms ≡ answer_of pages terms
unfolding answer_from answer_of
answer_from_0 pages terms = ap (λ hits. take 50 (ranked hits)) (filter_all (hits_among terms pages))

pub answer_of_whole : (best : BestData) (pages : List PageData) (terms : List TermData) → is_whole best ≡ true → best.hits ≡ answer_from best.least pages terms → best.hits ≡ answer_of pages terms
answer_of_whole best pages terms whole e = by (best.least == 0) refl whole
  where
    by : (b : Bool) → best.least == 0 ≡ b → b || nat_le 50 (length best.hits) ≡ true → best.hits ≡ answer_of pages terms
    by true none full = e ∙ ap (λ least. answer_from least pages terms) (eqb-true best.least 0 none) ∙ answer_from_0 pages terms
    by false some full = e ∙ whole_answer best.least pages terms (subst (λ hits. 50 ≤ length hits) e (grind (arith, full)))
