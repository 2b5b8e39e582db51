-- Finished crawls with one table agree; a place has one page; with one try all outcomes are last
-- outcomes.
use Rattle.std.proofs.Common.{◌≡◌, ℕ, ◌≤◌, List, [], ◌∷◌, ◌++◌, inl, inr, ◌↔◌, Option, Some, None, refl, sym, ◌∙◌, ap, subst, arith, slice_get}
use Rattle.std.proofs.lemmas.Bool.{eq-eqb}
use Rattle.std.proofs.lemmas.List.{append-nil}
use Rattle.gopher_item.specs.Place.{PlaceData, is_among}
use Rattle.gopher_item.specs.Scope.{ScopeData}
use Rattle.gopher_page.specs.Page.{PageData, page_of}
use Rattle.gopher_catalogue.specs.Event.{OpeningData, EventData, Opened, Claimed, Found, Failed}
use Rattle.gopher_catalogue.specs.Frontier.{known, finds}
use Rattle.gopher_catalogue.specs.Legal.{MayFollow, FollowEachOther, IsLegal}
use Rattle.gopher_catalogue.specs.Pages.{pages_found}
use Rattle.gopher_catalogue.specs.Closure.{OutcomeTable, links_after, IsReachable, seed, link, IsReachedPage, last_outcome, IsTold, Agrees, GivesEachOutcome, SamePlaces, FinishedCrawlsAgree}
use Rattle.gopher_catalogue.proofs.Lists.{slice_get_push_cases}
use Rattle.gopher_catalogue.proofs.Legal.{legal_ind}
use Rattle.gopher_catalogue.proofs.Steps.{pages_push}
use Rattle.gopher_catalogue.proofs.Places.{bools_agree}
use Rattle.gopher_catalogue.proofs.KnownPlaces.{known-distinct}
use Rattle.gopher_catalogue.proofs.States.{out_at}
use Rattle.gopher_catalogue.proofs.LastOutcome.{finds_at, last_outcome_at, outcome_is_last}
use Rattle.gopher_catalogue.proofs.Reach.{holds_reach, page_found_at, known_stays}

-- ---- two crawls

-- with one scope, equal seeds reach equal places
reach_same : (scope scope' : ScopeData) (seeds seeds' : List PlaceData) (table : OutcomeTable) → scope ≡ scope' → SamePlaces seeds seeds' → (p : PlaceData) → IsReachable scope seeds table p → IsReachable scope' seeds' table p
reach_same scope scope' seeds seeds' table one same p (seed among) = seed (sym (same p) ∙ among)
reach_same scope scope' seeds seeds' table one same p (link {place} reached among) =
    link (reach_same scope scope' seeds seeds' table one same place reached) (ap (λ s. is_among (links_after s place (table place)) p) (sym one) ∙ among)

reached_page_same : (scope scope' : ScopeData) (seeds seeds' : List PlaceData) (table : OutcomeTable) → scope ≡ scope' → SamePlaces seeds seeds' → (page : PageData) → IsReachedPage scope seeds table page → IsReachedPage scope' seeds' table page
reached_page_same scope scope' seeds seeds' table one same page reached = record {
  place = reached.place;
  bytes = reached.bytes;
  is_reachable = reach_same scope scope' seeds seeds' table one same reached.place reached.is_reachable;
  is_fetched = reached.is_fetched;
  is_page = reached.is_page ∙ ap (λ s. page_of s reached.place reached.bytes) one;
}

pub crawls_agree : FinishedCrawlsAgree
crawls_agree opening opening' events events' table one same complete complete' =
    let here = holds_reach opening events table complete in
    let there = holds_reach opening' events' table complete' in
    let back : SamePlaces opening'.seeds opening.seeds = λ place. sym (same place) in (
      λ p. bools_agree (is_among (known opening events) p) (is_among (known opening' events') p)
          (λ h. (there.known_reachable p).1 (reach_same opening.scope opening'.scope opening.seeds opening'.seeds table one same p ((here.known_reachable p).0 h)))
          (λ h. (here.known_reachable p).1 (reach_same opening'.scope opening.scope opening'.seeds opening.seeds table (sym one) back p ((there.known_reachable p).0 h))),
      λ page. (
        λ h. (there.pages_reached page).1 (reached_page_same opening.scope opening'.scope opening.seeds opening'.seeds table one same page ((here.pages_reached page).0 h)),
        λ h. (here.pages_reached page).1 (reached_page_same opening'.scope opening.scope opening'.seeds opening.seeds table (sym one) back page ((there.pages_reached page).0 h)),
      ),
    )

-- ---- a place has one page

IsOnce : List PageData → Type 0
IsOnce pages = (i j : ℕ) (page other : PageData) → slice_get pages i ≡ Some page → slice_get pages j ≡ Some other → page.place ≡ other.place → i ≡ j

-- a page found before is of another place than a number that is out
found_before : (opening : OpeningData) (events : List EventData) → IsLegal (Opened opening ∷ events) → (n : ℕ) (page other : PageData) (i : ℕ) → MayFollow opening events (Found n page) → slice_get (pages_found events) i ≡ Some other → page.place ≡ other.place → ⊥
found_before opening events legal n page other i may h same =
    let found = page_found_at events i other h in
    let m : ℕ = found.1 in
    let place' : slice_get (known opening events) m ≡ Some other.place = known_stays opening events found.0 m other.place (legal.1 found.0 (Found m other) found.2).1 in
    let number : m ≡ n = known-distinct opening events m n other.place place' (may.1 ∙ ap Some same) in
    let once : 1 ≤ finds events m = finds_at events found.0 m (Found m other) found.2 (eq-eqb m m refl) in
    let never = (out_at opening events legal n may.0.is_out).never_found in
    let never' : finds events m ≡ 0 = ap (finds events) number ∙ never in
    omega arith

pub page_once : (opening : OpeningData) (events : List EventData) (i j : ℕ) (page other : PageData) → IsLegal (Opened opening ∷ events) → slice_get (pages_found events) i ≡ Some page → slice_get (pages_found events) j ≡ Some other → page.place ≡ other.place → i ≡ j
unfolding pages_found IsOnce
page_once opening events i j page other legal h k same =
    legal_ind (λ es. IsOnce (pages_found es)) opening (λ i j page other h k same. cc) step events legal.1 i j page other h k same
  where
    step : (es : List EventData) (e : EventData) → FollowEachOther opening es → MayFollow opening es e → IsOnce (pages_found es) → IsOnce (pages_found (es ++ e ∷ []))
    step es (Opened x) follows may ih = absurd may
    step es (Claimed n) follows may ih = subst IsOnce (sym (pages_push es (Claimed n) ∙ append-nil (pages_found es))) ih
    step es (Found n new) follows may ih =
        subst IsOnce (sym (pages_push es (Found n new)))
        (λ i j page other h k same.
        elim (slice_get_push_cases (pages_found es) new i page h) as (λ q. i ≡ j) [
          | inl old ↦ elim (slice_get_push_cases (pages_found es) new j other k) as (λ q. i ≡ j) [
            | inl old' ↦ ih i j page other old.1 old'.1 same
            | inr last' ↦ absurd (found_before opening es (legal.0, follows) n new page i may old.1 (ap (λ (q : PageData). q.place) last'.1 ∙ sym same))
          ]
          | inr last ↦ elim (slice_get_push_cases (pages_found es) new j other k) as (λ q. i ≡ j) [
            | inl old' ↦ absurd (found_before opening es (legal.0, follows) n new other j may old'.1 (ap (λ (q : PageData). q.place) last.1 ∙ same))
            | inr last' ↦ last.0 ∙ sym last'.0
          ]
        ])
    step es (Failed n why) follows may ih = subst IsOnce (sym (pages_push es (Failed n why) ∙ append-nil (pages_found es))) ih

-- ---- one try

pub one_try_agrees : (opening : OpeningData) (events : List EventData) (table : OutcomeTable) → IsLegal (Opened opening ∷ events) → opening.tries ≡ 1 → Agrees opening events table ↔ GivesEachOutcome opening events table
one_try_agrees opening events table legal one = (
  λ agrees k n e place h o at'. subst (IsTold opening.scope place (table place)) (outcome_is_last opening events legal one k n e h o) (agrees n place at'),
  λ gives n place at'. back gives n place at' (last_outcome events n) refl,
) where
  back : GivesEachOutcome opening events table → (n : ℕ) (place : PlaceData) → slice_get (known opening events) n ≡ Some place → (last : Option EventData) → last_outcome events n ≡ last → IsTold opening.scope place (table place) (last_outcome events n)
  back gives n place at' None e = subst (IsTold opening.scope place (table place)) (sym e) tt
  back gives n place at' (Some x) e =
      let where' = last_outcome_at n events x e in
      subst (IsTold opening.scope place (table place)) (sym e) (gives where'.0 n x place where'.1 where'.2 at')
