-- A finished crawl gives the final answers.
use Rattle.std.proofs.Common.{◌≡◌, ℕ, true, false, cond, eqb, List, ◌∷◌, get_or, Some, ◌↔◌, refl, sym, ◌∙◌, ap, subst, arith, Result, Ok, Err, IfOk}
use Rattle.gopher_item.specs.Scope.{ScopeData}
use Rattle.std.specs.List.{slice_get, Contains, IsDistinct}
use Rattle.std.proofs.lemmas.Bool.{false_from_ne_true}
use Rattle.std.proofs.lemmas.Map.Keys.{IsDistinct-from_apart}
use Rattle.std.proofs.lemmas.Option.{slice_get-get_or, same_Some}
use Rattle.gopher_item.specs.Place.{PlaceData}
use Rattle.gopher_item.proofs.PlaceLemmas.{same_place-true}
use Rattle.gopher_page.specs.Page.{PageData, page_of, menu_page, text_page}
use Rattle.gopher_catalogue.specs.Event.{OpeningData, EventData, Opened}
use Rattle.gopher_catalogue.specs.Legal.{IsLegal}
use Rattle.gopher_catalogue.specs.Pages.{pages_found}
use Rattle.gopher_catalogue.specs.Closure.{OutcomeTable, Fetched, IsReachedPage, AreReachedPages, IsComplete, HoldsReach, OnceComplete, AnswersAreOfPagesFound, FinishedCrawlGivesFinalAnswers, FinishedCrawlGivesFinalOccurrences, FinishedCrawlsAnswerAlike}
use Rattle.gopher_index.specs.Answer.{hits_among, ranked, answer_of, occurrences_of, AreOccurrences}
use Rattle.gopher_catalogue.proofs.Legal.{legal_record}
use Rattle.gopher_catalogue.proofs.Reach.{holds_reach}
use Rattle.gopher_catalogue.proofs.FinishedCrawls.{page_once, crawls_agree}
use Rattle.gopher_catalogue.proofs.PageLists.{IsOnePerPlace, hits_ordered, answers_same, occurrences_ordered, occurrences_same, of_same_place, occurrences_are}

-- ---- the pages of a whole record

-- an opening has no page
pub pages_found-opened : (opening : OpeningData) (events : List EventData) → pages_found (Opened opening ∷ events) ≡ pages_found events
unfolding pages_found
pages_found-opened opening events = refl

-- two found pages of one place are equal
one_per_place : (opening : OpeningData) (events : List EventData) → IsLegal (Opened opening ∷ events) → IsOnePerPlace (Contains (pages_found events))
one_per_place opening events legal a b has has' same =
    let first : slice_get (pages_found events) has.0 ≡ Some a = slice_get-get_or (pages_found events) has.0 a has.1 ∙ ap Some has.2 in
    let second : slice_get (pages_found events) has'.0 ≡ Some b = slice_get-get_or (pages_found events) has'.0 b has'.1 ∙ ap Some has'.2 in
    let index : has.0 ≡ has'.0 = page_once opening events has.0 has'.0 a b legal first second same in
    same_Some a b (sym first ∙ ap (slice_get (pages_found events)) index ∙ second)

-- no two found pages are of one place
pages_distinct : (opening : OpeningData) (events : List EventData) → IsLegal (Opened opening ∷ events) → IsDistinct of_same_place (pages_found events)
pages_distinct opening events legal =
    IsDistinct-from_apart of_same_place (pages_found events)
    (λ i j d below within. false_from_ne_true (of_same_place (get_or (pages_found events) i d) (get_or (pages_found events) j d))
    (λ same.
    let index : i ≡ j = page_once opening events i j (get_or (pages_found events) i d) (get_or (pages_found events) j d) legal
    (slice_get-get_or (pages_found events) i d (omega arith)) (slice_get-get_or (pages_found events) j d within)
    (same_place-true (get_or (pages_found events) i d).place (get_or (pages_found events) j d).place same) in
    omega arith))

page_of-place : (scope : ScopeData) (place : PlaceData) (bytes : List ℕ) → (page_of scope place bytes).place ≡ place
unfolding page_of
page_of-place scope place bytes =
    elim (eqb place.kind 49) as (λ b. (cond b (menu_page scope place bytes) (text_page place bytes)).place ≡ place) [
      | true ↦ refl
      | false ↦ refl
    ]

-- two pages of one reachable place are equal
reached_once : (scope : ScopeData) (seeds : List PlaceData) (table : OutcomeTable) → IsOnePerPlace (IsReachedPage scope seeds table)
reached_once scope seeds table a b one other same =
    let place : one.place ≡ other.place = sym (ap (λ (p : PageData). p.place) one.is_page ∙ page_of-place scope one.place one.bytes) ∙ same ∙ ap (λ (p : PageData). p.place) other.is_page ∙ page_of-place scope other.place other.bytes in
    let fetched : Some (Fetched one.bytes) ≡ Some (Fetched other.bytes) = sym one.is_fetched ∙ ap table place ∙ other.is_fetched in
    let bytes : one.bytes ≡ other.bytes = cc in
    one.is_page ∙ (λ i. page_of scope (place i) (bytes i)) ∙ sym other.is_page

-- ---- lists of hits and of occurrences

-- two lists of the pages of the reachable places have the same results
module _ {L : Type 0} {of : List PageData → L} (same : (pages : List PageData) → IsOnePerPlace (Contains pages) → (others : List PageData) → ((page : PageData) → Contains pages page ↔ Contains others page) → of pages ≡ of others) where
  pub final_one : (scope : ScopeData) (seeds : List PlaceData) (table : OutcomeTable) (list other : L)
      → (pages : List PageData) × AreReachedPages scope seeds table pages × (list ≡ of pages)
      → (pages : List PageData) × AreReachedPages scope seeds table pages × (other ≡ of pages) → list ≡ other
  final_one scope seeds table list other here there =
      here.2
      ∙ same here.0 (λ a b has has' place. reached_once scope seeds table a b ((here.1 a).0 has) ((here.1 b).0 has') place) there.0
      (λ page. (λ has. (there.1 page).1 ((here.1 page).0 has), λ has. (here.1 page).1 ((there.1 page).0 has)))
      ∙ sym there.2

-- ---- over whole records

pub record_answers : AnswersAreOfPagesFound
unfolding pages_found answer_of
record_answers opening events legal =
    let once = one_per_place opening events legal in
    let pages = pages_found events in (
      λ query. (ranked (hits_among query pages), hits_ordered query pages once, refl),
      λ word. occurrences_ordered word pages once,
    )

reached_in : (record_ : List EventData) (opening : OpeningData) (events : List EventData) (table : OutcomeTable) → record_ ≡ Opened opening ∷ events → IsComplete opening events table → AreReachedPages opening.scope opening.seeds table (pages_found record_)
reached_in record_ opening events table is complete =
    subst (AreReachedPages opening.scope opening.seeds table) (sym (ap pages_found is ∙ pages_found-opened opening events)) (holds_reach opening events table complete).pages_reached

pub record_final_answer : FinishedCrawlGivesFinalAnswers
record_final_answer opening events table query complete = (pages_found (Opened opening ∷ events), reached_in (Opened opening ∷ events) opening events table refl complete, refl)

pub record_final_occurrences : FinishedCrawlGivesFinalOccurrences
record_final_occurrences opening events table word complete = (pages_found (Opened opening ∷ events), reached_in (Opened opening ∷ events) opening events table refl complete, refl)

-- a list that a call returned
pub final_returned : {L V E : Type 0} (of : List PageData → L) (items : V → L) (record_ : List EventData) (r : Result V E) → IfOk r (λ v. items v ≡ of (pages_found record_))
    → IfOk r (λ v. OnceComplete record_ (λ opening events table. (pages : List PageData) × AreReachedPages opening.scope opening.seeds table pages × (items v ≡ of pages)))
final_returned of items record_ (Ok v) returned = λ opening events table is complete. (pages_found record_, reached_in record_ opening events table is complete, returned)
final_returned of items record_ (Err e) returned = tt

pub record_reach : (record_ : List EventData) → OnceComplete record_ HoldsReach
record_reach record_ opening events table is complete = holds_reach opening events table complete

-- occurrences in place order are those of the record
record_occurrences : (record_ : List EventData) (word : List ℕ) (list : List (PlaceData × ℕ)) → IsLegal record_ → AreOccurrences (pages_found record_) word list → list ≡ occurrences_of (pages_found record_) word
unfolding pages_found
record_occurrences record_ word list legal =
    legal_record (λ r. AreOccurrences (pages_found r) word list → list ≡ occurrences_of (pages_found r) word)
    (λ opening events legal. occurrences_are (pages_found events) word list (one_per_place opening events legal) (pages_distinct opening events legal)) record_ legal

pub occurrences_sorted : {V E : Type 0} (items : V → List (PlaceData × ℕ)) (record_ : List EventData) (word : List ℕ) (r : Result V E) → IsLegal record_ → IfOk r (λ v. AreOccurrences (pages_found record_) word (items v)) → IfOk r (λ v. items v ≡ occurrences_of (pages_found record_) word)
occurrences_sorted items record_ word (Ok v) legal are = record_occurrences record_ word (items v) legal are
occurrences_sorted items record_ word (Err e) legal are = tt

-- ---- two crawls

pub answer_alike : FinishedCrawlsAnswerAlike
unfolding pages_found
answer_alike opening opening' events events' table one same complete complete' =
    let once = one_per_place opening events complete.legal in
    let agree = (crawls_agree opening opening' events events' table one same complete complete').1 in (
      λ query. answers_same query (pages_found events) once (pages_found events') agree,
      λ word. occurrences_same word (pages_found events) once (pages_found events') agree,
    )
