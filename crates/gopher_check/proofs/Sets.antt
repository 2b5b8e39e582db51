-- Sets of places that grow, and the sizes of a list that is split.
use Rattle.std.proofs.Common.{◌≡◌, ℕ, Bool, true, false, ◌||◌, cond, List, [], ◌∷◌, ◌++◌, map, refl, sym, ◌∙◌, ap, flat_map}
use Rattle.std.specs.Global.{Global}
use Rattle.std.specs.declared.sync.Arc.{Arc}
use Rattle.std.specs.HashSet.{HashSet, contains, Updates}
use Rattle.std.proofs.lemmas.List.{map-append, append-nil}
use Rattle.std.proofs.lemmas.List.Concat.{flat_map-append}
use Rattle.std.proofs.lemmas.List.Folds.{list_any-append}
use Rattle.gopher_item.specs.Laws.{same_place_equiv}
use Rattle.gopher_item.specs.Place.{PlaceData, same_place, is_among}
use Rattle.gopher_catalogue.specs.declared.event.EventData.{EventData}
use Rattle.gopher_catalogue.specs.declared.event.EventData.TheVariants.{Found}
use Rattle.gopher_catalogue.specs.declared.event.Event.{Event}
use Rattle.gopher_catalogue.specs.declared.event.Event.TheVariants.{Opened as OpenedEvent, Claimed as ClaimedEvent, Found as FoundEvent, Failed as FailedEvent}
use Rattle.gopher_catalogue.specs.EventOf.{event_data}
use Rattle.gopher_page.specs.Page.{PageData}
use Rattle.gopher_catalogue.specs.Pages.{page_of_event, pages_found}
use Rattle.gopher_check.specs.Reach.{AddsPlaces, HasPlaces, places_found, places_linked, places_linked_by}

-- ---- sets

or_nested : (a b c : Bool) → ((a || b) || c) ≡ (a || (b || c))
or_nested true b c = refl
or_nested false b c = refl

or_none : (a : Bool) → (a || false) ≡ a
or_none true = refl
or_none false = refl

pub adds_none : {S : Type 0} (set : HashSet PlaceData S) → AddsPlaces [] set set
adds_none set place = sym (or_none (contains same_place set place))

-- these places, and then these
pub adds_next : {S : Type 0} (before one next : List PlaceData) (s t u : HashSet PlaceData S) → next ≡ before ++ one → AddsPlaces before s t → AddsPlaces one t u → AddsPlaces next s u
adds_next before one next s t u is first second place =
    second place ∙ ap (λ b. b || is_among one place) (first place)
    ∙ or_nested (contains same_place s place) (is_among before place) (is_among one place)
    ∙ ap (λ b. contains same_place s place || b) (sym (list_any-append (same_place place) before one) ∙ ap (λ ps. is_among ps place) (sym is))

or_swapped : (a b : Bool) → cond a true b ≡ (b || (a || false))
or_swapped true true = refl
or_swapped true false = refl
or_swapped false true = refl
or_swapped false false = refl

-- a place was inserted
pub adds_one : {S : Type 0} (s t : HashSet PlaceData S) (one : PlaceData) → Updates same_place s t one true → AddsPlaces (one ∷ []) s t
adds_one s t one updates place =
    updates.0 place ∙ or_swapped (same_place one place) (contains same_place s place)
    ∙ ap (λ b. contains same_place s place || (b || false)) (same_place_equiv.symm one place)

-- a set that was empty has what was added
pub has_from_adds : {S : Type 0} (places : List PlaceData) (s t : HashSet PlaceData S) → ((place : PlaceData) → contains same_place s place ≡ false) → AddsPlaces places s t → HasPlaces places t
has_from_adds places s t none adds place = adds place ∙ ap (λ b. b || is_among places place) (none place)

-- ---- places of longer records

pub found_append : (xs ys : List EventData) → places_found (xs ++ ys) ≡ places_found xs ++ places_found ys
unfolding pages_found
found_append xs ys =
    ap (map (λ page. page.place)) (flat_map-append page_of_event xs ys)
    ∙ map-append (λ page. page.place) (flat_map page_of_event xs) (flat_map page_of_event ys)

pub found_one : (number : ℕ) (page : PageData) → places_found (Found number page ∷ []) ≡ page.place ∷ []
unfolding pages_found
found_one number page = refl

pub found_none : (event : Event) → ((number : ℕ) (page : Arc PageData Global) → event ≡ FoundEvent number page → ⊥) → places_found (event_data event ∷ []) ≡ []
unfolding pages_found
found_none (OpenedEvent opening) none = refl
found_none (ClaimedEvent number) none = refl
found_none (FoundEvent number page) none = absurd (none number page refl)
found_none (FailedEvent number why) none = refl

pub linked_push : (xs : List EventData) (e : EventData) → places_linked (xs ++ e ∷ []) ≡ places_linked xs ++ places_linked_by e
linked_push xs e = flat_map-append places_linked_by xs (e ∷ []) ∙ ap (λ ps. places_linked xs ++ ps) (append-nil (places_linked_by e))
