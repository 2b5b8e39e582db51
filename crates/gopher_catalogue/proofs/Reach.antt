-- A finished crawl knows exactly what can be reached.
use Rattle.std.proofs.Common.{◌≡◌, ℕ, suc, zero, ◌+◌, ◌≤◌, ◌<◌, Bool, true, false, not, cond, List, [], ◌∷◌, ◌++◌, length, take, drop, filter, get_or, inl, inr, Option, Some, None, refl, sym, ◌∙◌, ap, subst, arith, eqb, ltb, leb, slice_get, flat_map, All, Contains}
use Rattle.std.proofs.lemmas.Bool.{false≢true, or_left, or_right, or_cases, ltb-true, leb-true, not_from_false, true_from_ne_false}
use Rattle.std.proofs.lemmas.List.{take_all, take-append-drop}
use Rattle.std.proofs.lemmas.List.Elements.{All-nil, All-append, All-filter, All-take, filter_passes}
use Rattle.std.proofs.lemmas.List.Folds.{list_any-append}
use Rattle.std.proofs.lemmas.Map.Views.{any-filter_same}
use Rattle.std.proofs.lemmas.Option.{slice_get_within, slice_get-get_or, get_or_from_slice_get}
use Rattle.gopher_item.proofs.PlaceLemmas.{same_place-true}
use Rattle.gopher_item.specs.Place.{PlaceData, same_place, is_among, distinct}
use Rattle.gopher_item.specs.Scope.{ScopeData, allows, IsAllowed}
use Rattle.gopher_page.specs.Page.{PageData, page_of, menu_page, text_page}
use Rattle.gopher_catalogue.specs.Event.{OpeningData, EventData, Opened, Claimed, Found, Failed}
use Rattle.gopher_catalogue.specs.Frontier.{mentioned, mentions, known, dropped, finds, failures, is_done}
use Rattle.gopher_catalogue.specs.Legal.{IsLegal}
use Rattle.gopher_catalogue.specs.Pages.{page_of_event, pages_found}
use Rattle.gopher_catalogue.specs.Closure.{OutcomeData, Fetched, Unfetched, OutcomeTable, links_after, IsReachable, seed, link, last_outcome, IsTold, Agrees, IsComplete, HoldsReach}
use Rattle.gopher_catalogue.proofs.Lists.{slice_get-append_left, take_next}
use Rattle.gopher_catalogue.proofs.Places.{known_of, dropped_of, known_of-append}
use Rattle.gopher_catalogue.proofs.KnownPlaces.{known-allowed, among_at, at_from_among, All-distinct}
use Rattle.gopher_catalogue.proofs.Steps.{is_done_is, mentions-nil, known_is, dropped_is, mentions-append, mentions_push}
use Rattle.gopher_catalogue.proofs.LegalSizes.{done_is, done_if_ended}
use Rattle.gopher_catalogue.proofs.LastOutcome.{count_at, last_outcome_at, last_outcome_none, find_is_last}
use Rattle.gopher_catalogue.proofs.OneTry.{filter_range_every}
use Rattle.gopher_catalogue.proofs.PageLists.{contains_given}

-- ---- members

All_at : {X : Type 0} (P : X → Type 0) (xs : List X) (k : ℕ) (x : X) → All P xs → slice_get xs k ≡ Some x → P x
All_at P xs k x all h = subst P (get_or_from_slice_get xs k x x h) (all k x (slice_get_within xs k x h))

All_from_among : (P : PlaceData → Type 0) (xs : List PlaceData) → ((p : PlaceData) → is_among xs p ≡ true → P p) → All P xs
All_from_among P xs h k d within = h (get_or xs k d) (among_at xs k (get_or xs k d) (slice_get-get_or xs k d within))

contains_at : {X : Type 0} (xs : List X) (k : ℕ) (x : X) → slice_get xs k ≡ Some x → Contains xs x
contains_at xs k x h = (k, slice_get_within xs k x h, get_or_from_slice_get xs k x x h)

at_from_contains : {X : Type 0} (xs : List X) (x : X) → Contains xs x → (k : ℕ) × (slice_get xs k ≡ Some x)
at_from_contains xs x c = (c.0, slice_get-get_or xs c.0 x c.1 ∙ ap Some c.2)

-- an element that passes a test is among those that pass
among_filter_from : (f : PlaceData → Bool) (xs : List PlaceData) (p : PlaceData) → is_among xs p ≡ true → f p ≡ true → is_among (filter f xs) p ≡ true
among_filter_from f xs p h t = any-filter_same (same_place p) f true (λ k same. ap f (sym (same_place-true p k same)) ∙ t) xs ∙ h

-- ---- pages

page_of-allowed : (scope : ScopeData) (place : PlaceData) (bytes : List ℕ) → All (IsAllowed scope) (page_of scope place bytes).links
unfolding page_of
page_of-allowed scope place bytes =
    elim (eqb place.kind 49) as (λ b. All (IsAllowed scope) (cond b (menu_page scope place bytes) (text_page place bytes)).links) [
      | true ↦ All-distinct (IsAllowed scope) _ (filter_passes (allows scope) _)
      | false ↦ All-nil (IsAllowed scope)
    ]

pub page_found_at : (events : List EventData) (i : ℕ) (page : PageData) → slice_get (pages_found events) i ≡ Some page → (k : ℕ) × (n : ℕ) × (slice_get events k ≡ Some (Found n page))
unfolding pages_found
page_found_at [] i page h = cc
page_found_at (Opened other ∷ events) i page h = let rest = page_found_at events i page h in (suc rest.0, rest.1, rest.2)
page_found_at (Claimed m ∷ events) i page h = let rest = page_found_at events i page h in (suc rest.0, rest.1, rest.2)
page_found_at (Found m other ∷ events) zero page h = let e : other ≡ page = cc in (0, m, ap (λ p. Some (Found m p)) e)
page_found_at (Found m other ∷ events) (suc i) page h = let rest = page_found_at events i page h in (suc rest.0, rest.1, rest.2)
page_found_at (Failed m why ∷ events) i page h = let rest = page_found_at events i page h in (suc rest.0, rest.1, rest.2)

contains_found : (events : List EventData) (k n : ℕ) (page : PageData) → slice_get events k ≡ Some (Found n page) → Contains (pages_found events) page
unfolding pages_found
contains_found events k n page h = contains_given page_of_event events (Found n page) page (contains_at events k (Found n page) h) (0, omega arith, refl)

-- ---- mentions and known places of a prefix

pub known_stays : (opening : OpeningData) (events : List EventData) (k n : ℕ) (p : PlaceData) → slice_get (known opening (take k events)) n ≡ Some p → slice_get (known opening events) n ≡ Some p
known_stays opening events k n p h =
    let early : List PlaceData = mentions opening (take k events) in
    let late : List PlaceData = flat_map (mentioned opening) (drop k events) in
    let whole : mentions opening events ≡ early ++ late = ap (mentions opening) (sym (take-append-drop k events)) ∙ mentions-append opening (take k events) (drop k events) in
    let known_early : slice_get (known_of opening.limit early) n ≡ Some p = ap (λ ps. slice_get ps n) (sym (known_is opening (take k events))) ∙ h in
    let within : n < length (known_of opening.limit early) = slice_get_within (known_of opening.limit early) n p known_early in
    ap (λ ps. slice_get ps n) (known_is opening events ∙ ap (known_of opening.limit) whole ∙ known_of-append opening.limit early late)
    ∙ slice_get-append_left (known_of opening.limit early) _ n within
    ∙ known_early

-- what an event mentions is mentioned
mentions_at : (opening : OpeningData) (events : List EventData) (k : ℕ) (e : EventData) (p : PlaceData) → slice_get events k ≡ Some e → is_among (mentioned opening e) p ≡ true → is_among (flat_map (mentioned opening) events) p ≡ true
mentions_at opening events k e p h among =
    let at' = at_from_among (mentioned opening e) p among in
    let has = contains_given (mentioned opening) events e p (contains_at events k e h) (contains_at (mentioned opening e) at'.0 p at'.1) in
    let found = at_from_contains (flat_map (mentioned opening) events) p has in
    among_at (flat_map (mentioned opening) events) found.0 p found.1

-- if no mention was dropped, each mentioned place is known
all_known : (opening : OpeningData) (events : List EventData) (p : PlaceData) → dropped opening events ≡ 0 → is_among (mentions opening events) p ≡ true → is_among (known opening events) p ≡ true
all_known opening events p none h =
    let at' = at_from_among (mentions opening events) p h in
    let zero' : dropped_of opening.limit (mentions opening events) ≡ 0 = sym (dropped_is opening events) ∙ none in
    let among : is_among (known_of opening.limit (mentions opening events)) p ≡ true =
    true_from_ne_false (is_among (known_of opening.limit (mentions opening events)) p) (λ missing.
    omega (arith, zero', count_at (λ q. not (is_among (known_of opening.limit (mentions opening events)) q)) (mentions opening events) at'.0 p at'.1 (not_from_false (is_among (known_of opening.limit (mentions opening events)) p) missing))) in
    rw (known_is opening events) among

-- ---- the page of a find

-- a found page is of its number's place
find_place : (opening : OpeningData) (events : List EventData) → IsLegal (Opened opening ∷ events) → (k n : ℕ) (page : PageData) → slice_get events k ≡ Some (Found n page) → slice_get (known opening (take k events)) n ≡ Some page.place
find_place opening events legal k n page h = (legal.1 k (Found n page) h).1

-- a found page is made of the table's bytes for its place
find_told : (opening : OpeningData) (events : List EventData) (table : OutcomeTable) → IsLegal (Opened opening ∷ events) → Agrees opening events table → (k n : ℕ) (page : PageData) → slice_get events k ≡ Some (Found n page) → IsTold opening.scope page.place (table page.place) (Some (Found n page))
find_told opening events table legal agrees k n page h =
    let at' = known_stays opening events k n page.place (find_place opening events legal k n page h) in
    subst (IsTold opening.scope page.place (table page.place)) (find_is_last opening events legal k n page h) (agrees n page.place at')

-- ---- each known place can be reached

-- the known places are among the mentioned ones
All_known : (P : PlaceData → Type 0) (opening : OpeningData) (es : List EventData) → All P (mentions opening es) → All P (known opening es)
unfolding known
All_known P opening es all = All-take P opening.limit (distinct (mentions opening es)) (All-distinct P (mentions opening es) all)

-- if its place can be reached, so can the links of a found page
links_reachable : (opening : OpeningData) (table : OutcomeTable) (n : ℕ) (page : PageData) → IsTold opening.scope page.place (table page.place) (Some (Found n page)) → IsReachable opening.scope opening.seeds table page.place → All (IsReachable opening.scope opening.seeds table) (filter (allows opening.scope) page.links)
links_reachable opening table n page told reached =
    All-filter (allows opening.scope) (IsReachable opening.scope opening.seeds table) page.links
    (All_from_among (IsReachable opening.scope opening.seeds table) page.links
    (λ p among.
    let same : links_after opening.scope page.place (table page.place) ≡ page.links =
    ap (links_after opening.scope page.place) told.1 ∙ ap (λ (q : PageData). q.links) (sym told.2) in
    link reached (ap (λ ps. is_among ps p) same ∙ among)))

mentions_reachable : (opening : OpeningData) (events : List EventData) (table : OutcomeTable) → IsLegal (Opened opening ∷ events) → Agrees opening events table → (k : ℕ) → k ≤ length events → All (IsReachable opening.scope opening.seeds table) (mentions opening (take k events))
mentions_reachable opening events table legal agrees zero h =
    let P : PlaceData → Type 0 = IsReachable opening.scope opening.seeds table in
    subst (All P) (sym (mentions-nil opening)) (All_from_among P opening.seeds (λ p among. seed among))
mentions_reachable opening events table legal agrees (suc k) h =
    let P : PlaceData → Type 0 = IsReachable opening.scope opening.seeds table in
    let before = mentions_reachable opening events table legal agrees k (omega arith) in
    let next = take_next events k (omega arith) in
    subst (λ es. All P (mentions opening es)) (sym next.2)
    (subst (All P) (sym (mentions_push opening (take k events) next.0))
    (All-append P (mentions opening (take k events)) (mentioned opening next.0) before (new next.0 next.1 before)))
  where
    new : (e : EventData) → slice_get events k ≡ Some e → All (IsReachable opening.scope opening.seeds table) (mentions opening (take k events)) → All (IsReachable opening.scope opening.seeds table) (mentioned opening e)
    new (Opened other) at' before = All-nil (IsReachable opening.scope opening.seeds table)
    new (Claimed m) at' before = All-nil (IsReachable opening.scope opening.seeds table)
    new (Found m page) at' before =
        let P : PlaceData → Type 0 = IsReachable opening.scope opening.seeds table in
        let reached : P page.place = All_at P (known opening (take k events)) m page.place (All_known P opening (take k events) before) (find_place opening events legal k m page at') in
        links_reachable opening table m page (find_told opening events table legal agrees k m page at') reached
    new (Failed m why) at' before = All-nil (IsReachable opening.scope opening.seeds table)

known_reached : (opening : OpeningData) (events : List EventData) (table : OutcomeTable) → IsLegal (Opened opening ∷ events) → Agrees opening events table → (p : PlaceData) → is_among (known opening events) p ≡ true → IsReachable opening.scope opening.seeds table p
known_reached opening events table legal agrees p among =
    let P : PlaceData → Type 0 = IsReachable opening.scope opening.seeds table in
    let all : All P (mentions opening (take (length events) events)) = mentions_reachable opening events table legal agrees (length events) (omega arith) in
    let all' : All P (mentions opening events) = subst (λ es. All P (mentions opening es)) (take_all (length events) events (omega arith)) all in
    let at' = at_from_among (known opening events) p among in
    All_at P (known opening events) at'.0 p (All_known P opening events all') at'.1

-- ---- a complete record

each_done : (opening : OpeningData) (events : List EventData) (table : OutcomeTable) → IsComplete opening events table → (n : ℕ) → n < length (known opening events) → is_done opening events n ≡ true
each_done opening events table complete n within = done_if_ended opening events complete.legal complete.none_waits complete.none_out n within

-- a number that is done has an outcome
has_outcome : (opening : OpeningData) (events : List EventData) (n : ℕ) → 1 ≤ opening.tries → is_done opening events n ≡ true → 1 ≤ finds events n + failures events n
has_outcome opening events n some done' =
    elim (or_cases (ltb 0 (finds events n)) (leb opening.tries (failures events n)) (sym (is_done_is events n opening) ∙ done')) as (λ q. 1 ≤ finds events n + failures events n) [
      | inl found ↦ omega (arith, ltb-true 0 (finds events n) found)
      | inr failed ↦ omega (arith, leb-true opening.tries (failures events n) failed)
    ]

-- ---- each place that can be reached is known

-- a known place whose outcome is bytes was found, with the page of these bytes
found_at : (opening : OpeningData) (events : List EventData) (table : OutcomeTable) → IsComplete opening events table → (place : PlaceData) (bytes : List ℕ) → is_among (known opening events) place ≡ true → table place ≡ Some (Fetched bytes) → (k : ℕ) × (n : ℕ) × (slice_get events k ≡ Some (Found n (page_of opening.scope place bytes)))
found_at opening events table complete place bytes among fetched =
    let at' = at_from_among (known opening events) place among in
    let n : ℕ = at'.0 in
    let ended_once = has_outcome opening events n complete.legal.0.some_try (each_done opening events table complete n (slice_get_within (known opening events) n place at'.1)) in
    cases n ended_once (last_outcome events n) refl (complete.agrees n place at'.1)
  where
    cases : (n : ℕ) → 1 ≤ finds events n + failures events n → (last : Option EventData) → last_outcome events n ≡ last → IsTold opening.scope place (table place) (last_outcome events n) → (k : ℕ) × (m : ℕ) × (slice_get events k ≡ Some (Found m (page_of opening.scope place bytes)))
    cases n ended_once None e told =
        let none = last_outcome_none n events e in
        absurd (omega (arith, none.0, none.1))
    cases n ended_once (Some (Opened other)) e told = absurd (false≢true (last_outcome_at n events (Opened other) e).2)
    cases n ended_once (Some (Claimed m)) e told = absurd (false≢true (last_outcome_at n events (Claimed m) e).2)
    cases n ended_once (Some (Found m page)) e told =
        let told' : IsTold opening.scope place (table place) (Some (Found m page)) = subst (IsTold opening.scope place (table place)) e told in
        let where' = last_outcome_at n events (Found m page) e in
        let same : Fetched told'.0 ≡ Fetched bytes = let both = told'.1 in cc in
        let page_is : page ≡ page_of opening.scope place bytes = told'.2 ∙ ap (page_of opening.scope place) (cc) in
        (where'.0, m, where'.1 ∙ ap (λ q. Some (Found m q)) page_is)
    cases n ended_once (Some (Failed m why)) e told =
        let told' : table place ≡ Some (Unfetched why) = subst (IsTold opening.scope place (table place)) e told in
        cc

reached_known : (opening : OpeningData) (events : List EventData) (table : OutcomeTable) → IsComplete opening events table → (p : PlaceData) → IsReachable opening.scope opening.seeds table p → is_among (known opening events) p ≡ true
unfolding mentions
reached_known opening events table complete p (seed among) =
    all_known opening events p complete.none_dropped
    (list_any-append (same_place p) opening.seeds (flat_map (mentioned opening) events) ∙ or_left (is_among opening.seeds p) (is_among (flat_map (mentioned opening) events) p) among)
reached_known opening events table complete p (link {place} reached among) =
    cases (reached_known opening events table complete place reached) (table place) refl
  where
    cases : is_among (known opening events) place ≡ true → (outcome : Option OutcomeData) → table place ≡ outcome → is_among (known opening events) p ≡ true
    cases ih None e = absurd (false≢true (ap (λ o. is_among (links_after opening.scope place o) p) (sym e) ∙ among))
    cases ih (Some (Unfetched why)) e = absurd (false≢true (ap (λ o. is_among (links_after opening.scope place o) p) (sym e) ∙ among))
    cases ih (Some (Fetched bytes)) e =
        let page : PageData = page_of opening.scope place bytes in
        let found = found_at opening events table complete place bytes ih e in
        let among' : is_among page.links p ≡ true = ap (λ o. is_among (links_after opening.scope place o) p) (sym e) ∙ among in
        let at' = at_from_among page.links p among' in
        let allowed : allows opening.scope p ≡ true = All_at (IsAllowed opening.scope) page.links at'.0 p (page_of-allowed opening.scope place bytes) at'.1 in
        let mention = mentions_at opening events found.0 (Found found.1 page) p found.2 (among_filter_from (allows opening.scope) page.links p among' allowed) in
        all_known opening events p complete.none_dropped
        (list_any-append (same_place p) opening.seeds (flat_map (mentioned opening) events) ∙ or_right (is_among opening.seeds p) (is_among (flat_map (mentioned opening) events) p) mention)

-- ---- the law

pub holds_reach : (opening : OpeningData) (events : List EventData) (table : OutcomeTable) → IsComplete opening events table → HoldsReach opening events table
holds_reach opening events table complete =
    let legal : IsLegal (Opened opening ∷ events) = complete.legal in
    let agrees : Agrees opening events table = complete.agrees in
    record {
      known_reachable = λ p. (known_reached opening events table legal agrees p, reached_known opening events table complete p);
      reachable_allowed = λ p reached.
          let at' = at_from_among (known opening events) p (reached_known opening events table complete p reached) in
          All_at (IsAllowed opening.scope) (known opening events) at'.0 p (known-allowed opening events legal) at'.1;
      all_done = done_is opening events ∙ filter_range_every (is_done opening events) 0 (length (known opening events)) (λ n l u. each_done opening events table complete n (omega arith));
      pages_reached = λ page. (
        λ held.
            let at' = at_from_contains (pages_found events) page held in
            let found = page_found_at events at'.0 page at'.1 in
            let told = find_told opening events table legal agrees found.0 found.1 page found.2 in
            let stays = known_stays opening events found.0 found.1 page.place (find_place opening events legal found.0 found.1 page found.2) in
            record {
              place = page.place;
              bytes = told.0;
              is_reachable = known_reached opening events table legal agrees page.place (among_at (known opening events) found.1 page.place stays);
              is_fetched = told.1;
              is_page = told.2;
            },
        λ reached.
            let found = found_at opening events table complete reached.place reached.bytes (reached_known opening events table complete reached.place reached.is_reachable) reached.is_fetched in
            subst (Contains (pages_found events)) (sym reached.is_page) (contains_found events found.0 found.1 (page_of opening.scope reached.place reached.bytes) found.2),
      );
    }
