-- Hits that come behind the last of the best, and others behind these.
use Rattle.std.proofs.Common.{◌≡◌, ◌⊎◌, ℕ, ◌+◌, ◌<◌, ◌≤◌, Bool, true, false, ◌&&◌, nat_le, nat_lt, List, [], ◌∷◌, ◌++◌, length, map, take, filter, get_or, slice_get, refl, sym, ap, subst, ◌∙◌, inl, inr, arith}
use Rattle.std.specs.Prelude.{Option, Some, None, option_map}
use Rattle.std.specs.Cmp.{nat_cmp_is}
use Rattle.std.specs.Option.{option_map_or}
use Rattle.std.specs.Ordering.{is_gt, is_lt, ordering_reverse, ordering_then}
use Rattle.std.specs.declared.cmp.Ordering.{Ordering}
use Rattle.std.specs.declared.cmp.Ordering.TheVariants.{Less, Equal, Greater}
use Rattle.std.proofs.lemmas.Bool.{both_ways}
use Rattle.std.proofs.lemmas.Option.{get_or_from_slice_get, slice_get-map, slice_get_cases, slice_get_read, slice_get_within}
use Rattle.std.proofs.lemmas.List.{take_more, length-map, get_or-map}
use Rattle.gopher_item.specs.Place.{place_cmp}
use Rattle.gopher_page.specs.Page.{PageData}
use Rattle.gopher_page.specs.Query.{TermData, matches}
use Rattle.gopher_segment.specs.Ranks.{AreRanks}
use Rattle.gopher_index.specs.Answer.{rank_cmp, ranked}
use Rattle.gopher_index.specs.Best.{BestData, hit_with, is_beyond, reaches, TakesHit}
use Rattle.gopher_index.specs.Plan.{is_match}
use Rattle.gopher_index.specs.declared.hit.Hit.{Hit}
use Rattle.gopher_index.proofs.AnswerLemmas.{best_beyond, rank_cmp_total}
use Rattle.gopher_index.proofs.Taking.{filter_kept, filter_left_out}

-- a hit behind the last isn't among the best
pub beyond_takes : (best : BestData) (hit : Hit) → is_beyond hit best ≡ true → TakesHit hit best best
beyond_takes best hit beyond = record { least = refl; hits = λ hits e. by (nat_le best.least hit.score) refl hits e }
  where
    by : (b : Bool) → nat_le best.least hit.score ≡ b → (hits : List Hit) → best.hits ≡ take 50 (ranked (filter (reaches best.least) hits)) → best.hits ≡ take 50 (ranked (filter (reaches best.least) (hits ++ hit ∷ [])))
    by true kept hits e = best_beyond (filter (reaches best.least) hits) best.hits hit e beyond ∙ ap (λ l. take 50 (ranked l)) (sym (filter_kept best.least hits hit kept))
    by false left_out hits e = e ∙ ap (λ l. take 50 (ranked l)) (filter_left_out best.least hits hit left_out)

gt_is : (o : Ordering) → is_gt o ≡ true → o ≡ Greater
gt_is Less h = absurd (both_ways false refl h)
gt_is Equal h = absurd (both_ways false refl h)
gt_is Greater h = refl

-- of a score that isn't higher, and a place that doesn't come before
not_first : (first second : Hit) → second.score ≤ first.score → is_lt (place_cmp second.place first.place) ≡ false → is_lt (rank_cmp second first) ≡ false
not_first first second low late = by (nat_lt second.score first.score) refl
  where
    by : (b : Bool) → nat_lt second.score first.score ≡ b → is_lt (rank_cmp second first) ≡ false
    by true lower =
        let less : second.score < first.score = grind (arith, lower) in
        ap (λ o. is_lt (ordering_then o (place_cmp second.place first.place))) (sym (nat_cmp_is first.score second.score Greater less))
    by false other =
        let same : first.score ≡ second.score = grind (arith, other, low) in
        ap (λ o. is_lt (ordering_then o (place_cmp second.place first.place))) (sym (nat_cmp_is first.score second.score Equal same)) ∙ late

pub later_behind : (first second last : Hit) → second.score ≤ first.score → is_lt (place_cmp second.place first.place) ≡ false → is_gt (rank_cmp first last) ≡ true → is_gt (rank_cmp second last) ≡ true
later_behind first second last low late beyond = by (rank_cmp second first) refl (not_first first second low late)
  where
    by : (o : Ordering) → rank_cmp second first ≡ o → is_lt o ≡ false → is_gt (rank_cmp second last) ≡ true
    by Less e h = absurd (both_ways true h refl)
    by Equal e h = ap is_gt (rank_cmp_total.congr second first last e) ∙ beyond
    by Greater e h =
        let before : rank_cmp first second ≡ Less = rank_cmp_total.antisymm first second ∙ ap ordering_reverse e in
        let ahead : rank_cmp last first ≡ Less = rank_cmp_total.antisymm last first ∙ ap ordering_reverse (gt_is (rank_cmp first last) beyond) in
        ap is_gt (rank_cmp_total.antisymm second last ∙ ap ordering_reverse (rank_cmp_total.trans last first second ahead before))

pub later_beyond : (best : BestData) (first second : Hit) → second.score ≤ first.score → is_lt (place_cmp second.place first.place) ≡ false → is_beyond first best ≡ true → is_beyond second best ≡ true
later_beyond best first second low late beyond = by (slice_get best.hits 49) beyond
  where
    by : (last : Option Hit) → option_map_or (λ r. is_gt (rank_cmp first r)) last false ≡ true → option_map_or (λ r. is_gt (rank_cmp second r)) last false ≡ true
    by None h = absurd (both_ways false refl h)
    by (Some last) h = later_behind first second last low late h

-- ---- what the ranks say

both : (a b : Bool) → a && b ≡ true → (a ≡ true) × (b ≡ true)
both true true e = (refl, refl)
both true false e = absurd (both_ways false refl e)
both false b e = absurd (both_ways false refl e)

pub page_there : {X Y : Type 0} (f : X → Y) (xs : List X) (k : ℕ) (x : X) → k < length xs → x ≡ get_or xs k x → slice_get (map f xs) k ≡ Some (f x)
page_there f xs k x within is = slice_get-map f xs k ∙ ap (option_map f) (slice_get_read xs (length xs) k x refl within is)

pub same_there : {X : Type 0} (xs : List X) (k : ℕ) (x y : X) → slice_get xs k ≡ Some x → slice_get xs k ≡ Some y → x ≡ y
same_there xs k x y first second =
    let found : Some x ≡ Some y = sym first ∙ second in
    cc

-- a page of a higher rank comes behind the last as well
pub covered_beyond : (pages : List PageData) (ranks : List ℕ) (tied score below : ℕ) (page : PageData) (best : BestData) → AreRanks pages ranks → slice_get pages tied ≡ Some page → (0 < below → is_beyond (hit_with score page) best ≡ true) → below ≤ score + 1
    → (index n : ℕ) (other : PageData) → slice_get pages index ≡ Some other → nat_lt n below && nat_lt (get_or ranks tied 0) (get_or ranks index 0) ≡ true → is_beyond (hit_with n other) best ≡ true
covered_beyond pages ranks tied score below page best are here beyond most index n other there covered =
    let under : n < below = grind (arith, (both (nat_lt n below) (nat_lt (get_or ranks tied 0) (get_or ranks index 0)) covered).0) in
    let higher : get_or ranks tied 0 < get_or ranks index 0 = grind (arith, (both (nat_lt n below) (nat_lt (get_or ranks tied 0) (get_or ranks index 0)) covered).1) in
    let late : is_lt (place_cmp other.place page.place) ≡ false =
    subst (λ (p : PageData). is_lt (place_cmp other.place p.place) ≡ false) (get_or_from_slice_get pages tied page other here)
    (subst (λ (p : PageData). is_lt (place_cmp p.place (get_or pages tied other).place) ≡ false) (get_or_from_slice_get pages index other other there)
    (are.ordered tied index other (slice_get_within pages tied page here) (slice_get_within pages index other there) higher)) in
    later_beyond best (hit_with score page) (hit_with n other) (omega (arith, under, most)) late (beyond (omega (arith, under)))

-- ---- the page at an index

pub record PageHere (pages : List PageData) (index : ℕ) : Type 0 where
  pub page : PageData
  pub there : slice_get pages index ≡ Some page
  pub next : take (index + 1) pages ≡ take index pages ++ page ∷ []

pub page_here : (pages : List PageData) (index : ℕ) → index < length pages → PageHere pages index
page_here pages index within = by (slice_get_cases pages index).1
  where
    by : ((x : PageData) × (index < length pages) × (slice_get pages index ≡ Some x) × (get_or pages index x ≡ x)) ⊎ ((length pages ≤ index) × (slice_get pages index ≡ None)) → PageHere pages index
    by (inl found) = record { page = found.0; there = found.2; next = take_more pages index found.0 within ∙ ap (λ y. take index pages ++ y ∷ []) found.3 }
    by (inr past) = absurd (omega (arith, past.0, within))

pub read_at : {Y : Type 0} (f : PageData → Y) (pages : List PageData) (zs : List Y) (index : ℕ) (page : PageData) (d : Y) → slice_get pages index ≡ Some page → zs ≡ map f pages → get_or zs index d ≡ f page
read_at f pages zs index page d there made =
    ap (λ l. get_or l index d) made ∙ get_or_from_slice_get (map f pages) index (f page) d (slice_get-map f pages index ∙ ap (option_map f) there)

-- whether a page matches, by its verdict
pub truth_at : (terms : List TermData) (pages : List PageData) (verdicts : List ℕ) (index : ℕ) (page : PageData) → slice_get pages index ≡ Some page → map is_match verdicts ≡ map (λ (p : PageData). matches terms p.counts) pages → is_match (get_or verdicts index 0) ≡ matches terms page.counts
truth_at terms pages verdicts index page there made =
    let within : index < length verdicts = omega (arith, slice_get_within pages index page there, length-map verdicts is_match, ap length made, length-map pages (λ (p : PageData). matches terms p.counts)) in
    sym (get_or-map is_match verdicts index 0 false within) ∙ read_at (λ (p : PageData). matches terms p.counts) pages (map is_match verdicts) index page false there made
