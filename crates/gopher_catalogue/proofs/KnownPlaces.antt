-- The known places are allowed and distinct.
use Rattle.std.proofs.Common.{◌≡◌, ℕ, suc, zero, ◌<◌, Bool, true, false, not, List, [], ◌∷◌, take, filter, inl, inr, Some, refl, sym, ◌∙◌, ap, arith, slice_get, flat_map, All, AllPairs}
use Rattle.std.proofs.lemmas.Bool.{false≢true, not-true, or_left, or_right, cases_eq, cases_lt}
use Rattle.std.proofs.lemmas.List.Elements.{All-nil, All-cons, All-head, All-tail, All-append, All-filter, All-take, All-weaker, filter_passes}
use Rattle.std.proofs.lemmas.List.Kept.{AllPairs-cons, AllPairs-filter}
use Rattle.std.proofs.lemmas.List.Sums.{AllPass-from_list_all}
use Rattle.std.proofs.lemmas.Option.{slice_get_within, slice_get-get_or, get_or_from_slice_get}
use Rattle.std.proofs.lemmas.List.{length-take}
use Rattle.std.proofs.lemmas.Map.Views.{list_any-from_Contains}
use Rattle.indexmap.proofs.CallerLemmas.{Contains-list_any}
use Rattle.gopher_item.specs.Laws.{same_place_equiv}
use Rattle.gopher_item.proofs.PlaceLemmas.{same_place-refl, same_place-true}
use Rattle.gopher_item.specs.Place.{PlaceData, same_place, is_among, distinct}
use Rattle.gopher_item.specs.Scope.{allows, IsAllowed}
use Rattle.gopher_catalogue.specs.Event.{OpeningData, EventData, Opened, Claimed, Found, Failed}
use Rattle.gopher_catalogue.specs.Frontier.{mentioned, mentions, known}
use Rattle.gopher_catalogue.specs.Legal.{IsLegal}
use Rattle.gopher_catalogue.proofs.Lists.{slice_get-take}

-- ---- allowed

pub All-distinct : (P : PlaceData → Type 0) (xs : List PlaceData) → All P xs → All P (distinct xs)
All-distinct P [] all = All-nil P
All-distinct P (x ∷ xs) all =
    All-cons P x (filter (λ other. not (same_place x other)) (distinct xs)) (All-head P x xs all)
    (All-filter (λ other. not (same_place x other)) P (distinct xs) (All-distinct P xs (All-tail P x xs all)))

mentioned-allowed : (opening : OpeningData) (events : List EventData) → All (IsAllowed opening.scope) (flat_map (mentioned opening) events)
mentioned-allowed opening [] = All-nil (IsAllowed opening.scope)
mentioned-allowed opening (Opened other ∷ events) = mentioned-allowed opening events
mentioned-allowed opening (Claimed n ∷ events) = mentioned-allowed opening events
mentioned-allowed opening (Found n page ∷ events) =
    All-append (IsAllowed opening.scope) (filter (allows opening.scope) page.links) (flat_map (mentioned opening) events) (filter_passes (allows opening.scope) page.links) (mentioned-allowed opening events)
mentioned-allowed opening (Failed n why ∷ events) = mentioned-allowed opening events

pub mentions-allowed : (opening : OpeningData) (events : List EventData) → IsLegal (Opened opening ∷ events) → All (IsAllowed opening.scope) (mentions opening events)
unfolding mentions
mentions-allowed opening events legal =
    All-append (IsAllowed opening.scope) opening.seeds (flat_map (mentioned opening) events) (AllPass-from_list_all (allows opening.scope) opening.seeds legal.0.allowed_seeds) (mentioned-allowed opening events)

pub known-allowed : (opening : OpeningData) (events : List EventData) → IsLegal (Opened opening ∷ events) → All (IsAllowed opening.scope) (known opening events)
unfolding known
known-allowed opening events legal =
    All-take (IsAllowed opening.scope) opening.limit (distinct (mentions opening events)) (All-distinct (IsAllowed opening.scope) (mentions opening events) (mentions-allowed opening events legal))

-- ---- each once

pub among_at : (xs : List PlaceData) (k : ℕ) (p : PlaceData) → slice_get xs k ≡ Some p → is_among xs p ≡ true
among_at xs k p h = list_any-from_Contains same_place_equiv p xs (k, slice_get_within xs k p h, get_or_from_slice_get xs k p p h)

pub at_from_among : (xs : List PlaceData) (p : PlaceData) → is_among xs p ≡ true → (k : ℕ) × (slice_get xs k ≡ Some p)
at_from_among xs p among = let has = Contains-list_any same_place same_place-true xs p among in (has.0, slice_get-get_or xs has.0 p has.1 ∙ ap Some has.2)

-- no place of the list occurs again after itself
distinct_apart : (xs : List PlaceData) → AllPairs (λ x y. same_place x y ≡ false) (distinct xs)
distinct_apart [] = λ i j d below within. absurd (omega arith)
distinct_apart (x ∷ xs) =
    let others : PlaceData → Bool = λ other. not (same_place x other) in
    AllPairs-cons (λ x y. same_place x y ≡ false) x (filter others (distinct xs))
    (All-weaker (λ y. others y ≡ true) (λ y. same_place x y ≡ false) (λ y passes. not-true (same_place x y) passes) (filter others (distinct xs)) (filter_passes others (distinct xs)))
    (AllPairs-filter (λ x y. same_place x y ≡ false) others (distinct xs) (distinct_apart xs))

occurs_once : (xs : List PlaceData) → AllPairs (λ x y. same_place x y ≡ false) xs → (i j : ℕ) (p : PlaceData) → slice_get xs i ≡ Some p → slice_get xs j ≡ Some p → i < j → ⊥
occurs_once xs apart i j p h k below =
    let differs = apart i j p below (slice_get_within xs j p k) in
    false≢true (sym (rw (get_or_from_slice_get xs i p p h, get_or_from_slice_get xs j p p k) at differs) ∙ same_place-refl p)

pub known-distinct : (opening : OpeningData) (events : List EventData) (i j : ℕ) (p : PlaceData) → slice_get (known opening events) i ≡ Some p → slice_get (known opening events) j ≡ Some p → i ≡ j
unfolding known
known-distinct opening events i j p h k =
    let all : List PlaceData = distinct (mentions opening events) in
    let within_i : i < opening.limit = omega (arith, slice_get_within (take opening.limit all) i p h, length-take opening.limit all) in
    let within_j : j < opening.limit = omega (arith, slice_get_within (take opening.limit all) j p k, length-take opening.limit all) in
    let first = sym (slice_get-take opening.limit all i within_i) ∙ h in
    let second = sym (slice_get-take opening.limit all j within_j) ∙ k in
    elim (cases_eq i j) as (λ c. i ≡ j) [
      | inl same ↦ same
      | inr ne ↦ elim (cases_lt i j) as (λ c. i ≡ j) [
        | inl below ↦ absurd (occurs_once all (distinct_apart (mentions opening events)) i j p first second below)
        | inr above ↦ absurd (occurs_once all (distinct_apart (mentions opening events)) j i p second first (omega (arith, ne)))
      ]
    ]
