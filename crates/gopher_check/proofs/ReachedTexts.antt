-- Which texts count as reached, if a crawl dropped no mention.
use Rattle.std.proofs.Common.{◌≡◌, ℕ, suc, zero, Bool, false, IsTrue, List, [], ◌∷◌, map, inl, inr, Some, refl, sym, ◌∙◌, ap, subst, eqb, slice_get}
use Rattle.std.proofs.lemmas.Bool.{cases_Bool}
use Rattle.std.proofs.lemmas.Option.{slice_get_within, slice_get-get_or, get_or_from_slice_get}
use Rattle.gopher_item.specs.Place.{PlaceData, HomeData, is_among}
use Rattle.gopher_item.specs.Scope.{ScopeData}
use Rattle.gopher_page.specs.Page.{PageData, page_of}
use Rattle.gopher_catalogue.specs.Pages.{pages_found}
use Rattle.gopher_tree.specs.Files.{File}
use Rattle.gopher_catalogue.specs.Closure.{OutcomeData, Fetched, Unfetched, IsReachable, seed, link, links_after}
use Rattle.gopher_catalogue.proofs.KnownPlaces.{among_at, at_from_among}
use Rattle.gopher_check.specs.Crawl.{site_outcome, site_table, outcome_for_links, taken_outcome, link_table}
use Rattle.gopher_check.specs.Reach.{places_found}
use Rattle.gopher_check.specs.Coverage.{ReachedTextsAreFetchable, text_place}
use Rattle.gopher_check.proofs.UnderWay.{finds_reached}

page_place : (scope : ScopeData) (place : PlaceData) (bytes : List ℕ) → (page_of scope place bytes).place ≡ place
unfolding page_of
page_place scope place bytes = elim (cases_Bool (eqb place.kind 49)) as (λ q. (page_of scope place bytes).place ≡ place) [ inl menu ↦ rw menu refl | inr text ↦ rw text refl ]

from_map : {X Y : Type 0} (f : X → Y) (xs : List X) (k : ℕ) (y : Y) → slice_get (map f xs) k ≡ Some y → (x : X) × (slice_get xs k ≡ Some x) × (f x ≡ y)
from_map f [] k y h = absurd (cc)
from_map f (x ∷ xs) zero y h = let e : f x ≡ y = cc in (x, refl, e)
from_map f (x ∷ xs) (suc k) y h = from_map f xs k y h

to_map : {X Y : Type 0} (f : X → Y) (xs : List X) (k : ℕ) (x : X) → slice_get xs k ≡ Some x → slice_get (map f xs) k ≡ Some (f x)
to_map f [] k x h = absurd (cc)
to_map f (other ∷ xs) zero x h = let e : other ≡ x = cc in ap (λ one. Some (f one)) e
to_map f (other ∷ xs) (suc k) x h = to_map f xs k x h

-- ---- a crawl for links reaches the same places

text_links : (scope : ScopeData) (place : PlaceData) (bytes : List ℕ) → eqb place.kind 49 ≡ false → (page_of scope place bytes).links ≡ []
unfolding page_of
text_links scope place bytes text = rw text refl

links_taken : (scope : ScopeData) (place : PlaceData) (outcome : OutcomeData) → links_after scope place (Some (outcome_for_links place.kind outcome)) ≡ links_after scope place (Some outcome)
links_taken scope place (Unfetched why) = refl
links_taken scope place (Fetched bytes) = elim (cases_Bool (eqb place.kind 49)) as (λ q. links_after scope place (Some (outcome_for_links place.kind (Fetched bytes))) ≡ links_after scope place (Some (Fetched bytes))) [
  | inl menu ↦ rw menu refl
  | inr text ↦ rw text (text_links scope place [] text ∙ sym (text_links scope place bytes text))
]

reach_to : (files : List File) (home : HomeData) (scope : ScopeData) (seeds : List PlaceData) (place : PlaceData) → IsReachable scope seeds (link_table files home) place → IsReachable scope seeds (site_table files home) place
unfolding taken_outcome
reach_to files home scope seeds place (seed among) = seed among
reach_to files home scope seeds next (link {place} reached among) =
    link (reach_to files home scope seeds place reached) (subst (λ links. IsTrue (is_among links next)) (links_taken scope place (site_outcome files home place)) among)

reach_from : (files : List File) (home : HomeData) (scope : ScopeData) (seeds : List PlaceData) (place : PlaceData) → IsReachable scope seeds (site_table files home) place → IsReachable scope seeds (link_table files home) place
unfolding taken_outcome
reach_from files home scope seeds place (seed among) = seed among
reach_from files home scope seeds next (link {place} reached among) =
    link (reach_from files home scope seeds place reached) (subst (λ links. IsTrue (is_among links next)) (sym (links_taken scope place (site_outcome files home place))) among)

fetched_to : (place : PlaceData) (outcome : OutcomeData) (bytes : List ℕ) → outcome_for_links place.kind outcome ≡ Fetched bytes → (whole : List ℕ) × (outcome ≡ Fetched whole)
fetched_to place (Fetched whole) bytes e = (whole, refl)
fetched_to place (Unfetched why) bytes e = absurd (cc)

fetched_from : (place : PlaceData) (outcome : OutcomeData) (whole : List ℕ) → outcome ≡ Fetched whole → (bytes : List ℕ) × (outcome_for_links place.kind outcome ≡ Fetched bytes)
fetched_from place outcome whole e = (_, ap (outcome_for_links place.kind) e)

pub reached_texts : ReachedTextsAreFetchable
unfolding taken_outcome
reached_texts files home opening record_ path crawl none = (
  λ among.
      let at' = at_from_among (places_found record_) place among in
      let found = from_map (λ (page : PageData). page.place) pages at'.0 place at'.1 in
      let reached = (finds_reached opening (link_table files home) record_ crawl none found.0).0 (at'.0, slice_get_within pages at'.0 found.0 found.1, get_or_from_slice_get pages at'.0 found.0 found.0 found.1) in
      let same : reached.place ≡ place = sym (page_place opening.scope reached.place reached.bytes) ∙ sym (ap (λ (page : PageData). page.place) reached.is_page) ∙ found.2 in (
        reach_to files home opening.scope opening.seeds place (subst (λ p. IsReachable opening.scope opening.seeds (link_table files home) p) same reached.is_reachable),
        (let taken : link_table files home place ≡ Some (Fetched reached.bytes) = subst (λ p. link_table files home p ≡ Some (Fetched reached.bytes)) same reached.is_fetched in
            let inner : outcome_for_links place.kind (site_outcome files home place) ≡ Fetched reached.bytes = cc in
            let whole = fetched_to place (site_outcome files home place) reached.bytes inner in
            (whole.0, ap Some whole.1)),
      ),
  λ fetched.
      let whole : site_outcome files home place ≡ Fetched fetched.1.0 = (let given = fetched.1.1 in cc) in
      let taken = fetched_from place (site_outcome files home place) fetched.1.0 whole in
      let page : PageData = page_of opening.scope place taken.0 in
      let reachable = reach_from files home opening.scope opening.seeds place fetched.0 in
      let held = (finds_reached opening (link_table files home) record_ crawl none page).1 (record { place = place; bytes = taken.0; is_reachable = reachable; is_fetched = ap Some taken.1; is_page = refl }) in
      let at' : slice_get pages held.0 ≡ Some page = slice_get-get_or pages held.0 page held.1 ∙ ap Some held.2 in
      among_at (places_found record_) held.0 place (to_map (λ (one : PageData). one.place) pages held.0 page at' ∙ ap Some (page_place opening.scope place taken.0)),
) where
  place : PlaceData
  place = text_place home path

  pages : List PageData
  pages = pages_found record_
