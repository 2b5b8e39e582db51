-- Pages taken in among the best.
use Rattle.std.proofs.Common.{◌≡◌, ℕ, ◌<◌, Bool, true, false, max, nat_le, List, [], ◌∷◌, ◌++◌, take, filter, slice_get, refl, sym, ap, ◌∙◌, arith}
use Rattle.std.specs.Prelude.{Option, Some, None, IfSome}
use Rattle.std.specs.List.{flat_map}
use Rattle.std.specs.Option.{option_map_or}
use Rattle.std.specs.Ordering.{is_gt, ordering_then}
use Rattle.std.specs.Cmp.{nat_cmp_is}
use Rattle.std.specs.declared.cmp.Ordering.TheVariants.{Greater}
use Rattle.std.proofs.lemmas.Bool.{cond-true, cond-false}
use Rattle.std.proofs.lemmas.List.{append-nil, append_assoc}
use Rattle.std.proofs.lemmas.List.Concat.{flat_map-append}
use Rattle.std.proofs.lemmas.List.Elements.{filter-append}
use Rattle.gopher_item.specs.Place.{place_cmp}
use Rattle.gopher_page.specs.Page.{PageData}
use Rattle.gopher_page.specs.Query.{TermData, matches, score}
use Rattle.gopher_index.specs.Answer.{rank_cmp, ranked, hit_of, hits_among}
use Rattle.gopher_index.specs.Best.{BestData, hit_with, reaches, answer_from, lowest_score, IsBestOf, TakesIn}
use Rattle.gopher_index.specs.declared.hit.Hit.{Hit}
use Rattle.gopher_index.proofs.AnswerLemmas.{best_beyond, ranked_none}

-- ---- one after another

pub takes_none : (terms : List TermData) (best : BestData) → TakesIn terms [] best best
takes_none terms best = record { least = refl; answers = λ before e. e ∙ ap (λ pages. answer_from best.least pages terms) (sym (append-nil before)) }

pub takes_both : (terms : List TermData) (first second : List PageData) (old middle new : BestData) → TakesIn terms first old middle → TakesIn terms second middle new → TakesIn terms (first ++ second) old new
takes_both terms first second old middle new a b =
    record {
      least = b.least ∙ a.least;
      answers = λ before e. b.answers (before ++ first) (a.answers before e) ∙ ap (λ pages. answer_from new.least pages terms) (append_assoc before first second);
    }

-- ---- one page

hits_push : (terms : List TermData) (before : List PageData) (page : PageData) → hits_among terms (before ++ page ∷ []) ≡ hits_among terms before ++ hit_of terms page
unfolding hits_among
hits_push terms before page = flat_map-append (hit_of terms) before (page ∷ []) ∙ ap (λ l. flat_map (hit_of terms) before ++ l) (append-nil (hit_of terms page))

-- what was done to the hits so far and one more
abbrev pub Takes : (hit : Hit) (old new : BestData) → Type 0
Takes hit old new = (hits : List Hit) → old.hits ≡ take 50 (ranked (filter (reaches old.least) hits)) → new.hits ≡ take 50 (ranked (filter (reaches old.least) (hits ++ hit ∷ [])))

module _ (terms : List TermData) (page : PageData) where
  abbrev pub page_hit : Hit
  page_hit = hit_with (score terms page.counts) page

  -- a page that doesn't match
  pub takes_unmatched : (best : BestData) → matches terms page.counts ≡ false → TakesIn terms (page ∷ []) best best
  unfolding answer_from
  takes_unmatched best fails =
      record {
        least = refl;
        answers = λ before e.
            e
            ∙ ap (λ hits. take 50 (ranked (filter (reaches best.least) hits)))
            (sym (append-nil (hits_among terms before)) ∙ ap (λ l. hits_among terms before ++ l) (sym (cond-false (matches terms page.counts) (page_hit ∷ []) [] fails)) ∙ sym (hits_push terms before page));
      }

  -- one that does
  pub takes_matched : (old new : BestData) → matches terms page.counts ≡ true → new.least ≡ old.least → Takes page_hit old new → TakesIn terms (page ∷ []) old new
  unfolding answer_from
  takes_matched old new holds same taken =
      record {
        least = same;
        answers = λ before e.
            taken (hits_among terms before) e
            ∙ ap (λ hits. take 50 (ranked (filter (reaches old.least) hits))) (ap (λ l. hits_among terms before ++ l) (sym (cond-true (matches terms page.counts) (page_hit ∷ []) [] holds)) ∙ sym (hits_push terms before page))
            ∙ ap (λ least. take 50 (ranked (filter (reaches least) (hits_among terms (before ++ page ∷ []))))) (sym same);
      }

-- one that is found with its score
pub takes_scored : (terms : List TermData) (page found : PageData) (truth : Bool) (n : ℕ) (old new : BestData) → found ≡ page → truth ≡ matches terms page.counts → truth ≡ true → n ≡ score terms page.counts
    → new.least ≡ old.least → Takes (hit_with n found) old new → TakesIn terms (page ∷ []) old new
takes_scored terms page found truth n old new same is holds scored least taken =
    takes_matched terms page old new (sym is ∙ holds) least
    (λ hits e. taken hits e ∙ (λ i. take 50 (ranked (filter (reaches old.least) (hits ++ hit_with (scored i) (same i) ∷ [])))))

-- ---- one more hit among those that reach the least

pub filter_kept : (least : ℕ) (hits : List Hit) (hit : Hit) → reaches least hit ≡ true → filter (reaches least) (hits ++ hit ∷ []) ≡ filter (reaches least) hits ++ hit ∷ []
filter_kept least hits hit kept = filter-append (reaches least) hits (hit ∷ []) ∙ ap (λ l. filter (reaches least) hits ++ l) (cond-true (reaches least hit) (hit ∷ []) [] kept)

pub filter_left_out : (least : ℕ) (hits : List Hit) (hit : Hit) → reaches least hit ≡ false → filter (reaches least) hits ≡ filter (reaches least) (hits ++ hit ∷ [])
filter_left_out least hits hit left_out =
    sym (append-nil (filter (reaches least) hits)) ∙ ap (λ l. filter (reaches least) hits ++ l) (sym (cond-false (reaches least hit) (hit ∷ []) [] left_out)) ∙ sym (filter-append (reaches least) hits (hit ∷ []))

-- ---- one whose score alone leaves it out

-- a lower score comes behind, whatever the places
lower_behind : (hit last : Hit) → hit.score < last.score → is_gt (rank_cmp hit last) ≡ true
lower_behind hit last lower = ap (λ o. is_gt (ordering_then o (place_cmp hit.place last.place))) (sym (nat_cmp_is last.score hit.score Greater lower))

below_behind : (hit : Hit) (last : Option Hit) → hit.score < option_map_or (λ r. r.score) last 0 → option_map_or (λ r. is_gt (rank_cmp hit r)) last false ≡ true
below_behind hit None below = absurd (omega (arith, below))
below_behind hit (Some last) below = lower_behind hit last below

best_below : (best : BestData) (hit : Hit) → hit.score < lowest_score best → Takes hit best best
best_below best hit below = λ hits e. by (nat_le best.least hit.score) refl hits e
  where
    by : (b : Bool) → nat_le best.least hit.score ≡ b → Takes hit best best
    by true kept hits e =
        let under : hit.score < option_map_or (λ r. r.score) (slice_get best.hits 49) 0 = grind (arith, below, kept) in
        best_beyond (filter (reaches best.least) hits) best.hits hit e (below_behind hit (slice_get best.hits 49) under)
        ∙ ap (λ l. take 50 (ranked l)) (sym (filter_kept best.least hits hit kept))
    by false left_out hits e = e ∙ ap (λ l. take 50 (ranked l)) (filter_left_out best.least hits hit left_out)

pub takes_below : (terms : List TermData) (page : PageData) (best : BestData) → score terms page.counts < lowest_score best → TakesIn terms (page ∷ []) best best
takes_below terms page best below = by (matches terms page.counts) refl
  where
    by : (b : Bool) → matches terms page.counts ≡ b → TakesIn terms (page ∷ []) best best
    by true holds = takes_matched terms page best best holds refl (best_below best (page_hit terms page) below)
    by false fails = takes_unmatched terms page best fails

-- ---- from nothing

pub answer_of_none : (least : ℕ) (terms : List TermData) → [] ≡ answer_from least [] terms
unfolding answer_from hits_among
answer_of_none least terms = ranked_none

-- a guess of the least score, before there are pages
pub guessed : (wanted : Option ℕ) (guess : ℕ) (terms : List TermData) (before : List PageData) (old new : BestData) → (wanted ≡ None → guess ≡ 0) → new.least ≡ max old.least guess → new.hits ≡ old.hits
    → IsBestOf terms before old → IfSome wanted (λ _. before ≡ []) → IsBestOf terms before new
guessed None guess terms before old new none least hits best first =
    let same : old.least ≡ new.least = omega (arith, none refl, least) in
    hits ∙ best ∙ ap (λ n. answer_from n before terms) same
guessed (Some wanted) guess terms before old new none least hits best first =
    hits ∙ best ∙ ap (λ pages. answer_from old.least pages terms) first ∙ sym (answer_of_none old.least terms) ∙ answer_of_none new.least terms ∙ ap (λ pages. answer_from new.least pages terms) (sym first)
