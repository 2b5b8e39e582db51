-- The best of the candidates of a search.
use Rattle.std.specs.Prelude.{◌≡◌, ℕ, ◌<◌, Bool, true, false, ◌||◌, ◌==◌, nat_le, max, List, [], ◌∷◌, ◌++◌, length, map, take, filter, slice_get, Option, Result, IfSome, OnOk}
use Rattle.std.specs.Arc.{arc_value}
use Rattle.std.specs.BTreeSet.{insert_key}
use Rattle.std.specs.List.Sorted.{IsStrictlySortedBy}
use Rattle.std.specs.Option.{option_map_or}
use Rattle.std.specs.Ordering.{is_eq, is_gt}
use Rattle.std.specs.declared.cmp.Ordering.{Ordering}
use Rattle.gopher_page.specs.Page.{PageData}
use Rattle.gopher_page.specs.Query.{TermData}
use Rattle.gopher_index.specs.Answer.{hits_among, rank_cmp, ranked}
use Rattle.gopher_index.specs.declared.best.Kept.{Kept}
use Rattle.gopher_index.specs.declared.best.Ranked.{Ranked}
use Rattle.gopher_index.specs.declared.hit.Hit.{Hit}

-- the best hits so far, and the least score that a hit must have
pub record BestData : Type 0 where
  pub least : ℕ
  pub hits : List Hit

-- the hit of a page with a score
abbrev pub hit_with : ℕ → PageData → Hit
hit_with score page = record { place = page.place; title = page.title; score = score }

-- a candidate as a hit
abbrev pub ranked_hit : Ranked → Hit
ranked_hit ranked = hit_with ranked.score (arc_value ranked.page.now)

-- a kept candidate as a hit
abbrev pub kept_hit : Kept → Hit
kept_hit kept = hit_with kept.score (arc_value kept.page)

-- the order of two candidates
abbrev pub rank_of : Ranked → Ranked → Ordering
rank_of candidate other = rank_cmp (ranked_hit candidate) (ranked_hit other)

-- whether the candidate ranks after the one at an index; `otherwise` if there is none
abbrev pub is_behind_at : Ranked → List Ranked → ℕ → Bool → Bool
is_behind_at candidate best index otherwise =
    option_map_or (λ other. is_gt (rank_of candidate other)) (slice_get best index) otherwise

-- whether the one at an index has the same rank as the candidate
abbrev pub is_equal_at : Ranked → List Ranked → ℕ → Bool
is_equal_at candidate best index =
    option_map_or (λ other. is_eq (rank_of candidate other)) (slice_get best index) false

-- the candidates are in the order of hits
abbrev pub AreRanked : List Ranked → Type 0
AreRanked best = IsStrictlySortedBy rank_cmp (map ranked_hit best)

-- if the candidates are in order, the first `count` of them rank before this one, and no others
abbrev pub RankBefore : Ranked → List Ranked → ℕ → Type 0
RankBefore candidate best count =
    AreRanked best
    → ((k : ℕ) → k < count → is_behind_at candidate best k true ≡ true)
    × (is_behind_at candidate best count false ≡ false)

-- if the candidates were in order, this one was inserted at its rank
abbrev pub Inserts : Ranked → List Ranked → List Ranked → Type 0
Inserts candidate old new =
    AreRanked old
    → map ranked_hit new ≡ insert_key rank_cmp (map ranked_hit old) (ranked_hit candidate)

abbrev pub reaches : ℕ → Hit → Bool
reaches least hit = nat_le least hit.score

-- the first 50 hits of pages with a score of at least `least`
unfoldable pub answer_from : ℕ → List PageData → List TermData → List Hit
answer_from least pages terms = take 50 (ranked (filter (reaches least) (hits_among terms pages)))

-- the hits are the first 50 over these pages that reach the least score
abbrev pub IsBestOf : List TermData → List PageData → BestData → Type 0
IsBestOf terms pages best = best.hits ≡ answer_from best.least pages terms

-- whether these are the best of all hits: there is no least score, or there are 50 of them
abbrev pub is_whole : BestData → Bool
is_whole best = (best.least == 0) || nat_le 50 (length best.hits)

-- the lowest score with which a page can get among the best: the score of the 50th, if there are
-- 50, and at least the least score
abbrev pub lowest_score : BestData → ℕ
lowest_score best = max best.least (option_map_or (λ last. last.score) (slice_get best.hits 49) 0)

-- whether a hit ranks after the 50th of the best
abbrev pub is_beyond : Hit → BestData → Bool
is_beyond hit best =
    option_map_or (λ last. is_gt (rank_cmp hit last)) (slice_get best.hits 49) false

-- if `old` has the best of some hits, `new` has the best of these hits and one more
pub record TakesHit (hit : Hit) (old new : BestData) : Type 0 where
  pub least : new.least ≡ old.least
  pub hits : (hits : List Hit) → old.hits ≡ take 50 (ranked (filter (reaches old.least) hits))
      → new.hits ≡ take 50 (ranked (filter (reaches old.least) (hits ++ hit ∷ [])))

-- if `old` has the answer over some pages, `new` has the answer over these pages followed by
-- `pages`
pub record TakesIn (terms : List TermData) (pages : List PageData) (old new : BestData)
    : Type 0 where
  pub least : new.least ≡ old.least
  pub answers : (before : List PageData) → old.hits ≡ answer_from old.least before terms
      → new.hits ≡ answer_from new.least (before ++ pages) terms

-- if `old` has the best of the pages before a part, `new` has the best of these pages and the
-- part's, unless it fails; if a number of hits is wanted, no pages come before
abbrev pub RanksPart : {T E : Type 0} → List TermData → List PageData → Option ℕ → BestData
    → BestData → Result T E → Type 0
RanksPart terms pages wanted old new result =
    (before : List PageData) → IsBestOf terms before old → IfSome wanted (λ _. before ≡ [])
    → OnOk result (IsBestOf terms (before ++ pages) new)

-- if `old` has the best of some hits, `new` has the best of these hits and one more, unless it
-- fails
abbrev pub AddsHit : {T E : Type 0} → Hit → BestData → BestData → Result T E → Type 0
AddsHit hit old new result =
    (hits : List Hit) → old.hits ≡ take 50 (ranked (filter (reaches old.least) hits))
    → OnOk result (new.hits ≡ take 50 (ranked (filter (reaches old.least) (hits ++ hit ∷ []))))
