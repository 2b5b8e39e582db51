-- The pages of a record: after one more event, their number, and that the index contains all of
-- them.
use Rattle.std.proofs.Common.{◌≡◌, ℕ, suc, zero, ◌≤◌, ◌<◌, List, [], ◌∷◌, ◌++◌, length, take, append_assoc, refl, sym, ◌∙◌, ap, arith, flat_map}
use Rattle.std.specs.Arc.{arc_value}
use Rattle.std.specs.declared.sync.Arc.{Arc}
use Rattle.std.specs.Global.{Global}
use Rattle.std.proofs.lemmas.Grind.{flat_map-append}
use Rattle.std.proofs.lemmas.List.{append-nil, length_push, length-take, take_all, take_at}
use mathlib.Core.List.{IsPrefix}
use Rattle.gopher_page.specs.Page.{PageData}
use Rattle.gopher_segment.specs.Segment.{SegmentData}
use Rattle.gopher_index.specs.Index.{IsSliceOf}
use Rattle.gopher_catalogue.specs.declared.event.Event.{Event}
use Rattle.gopher_catalogue.specs.declared.event.Event.TheVariants.{Opened as OpenedEvent, Claimed as ClaimedEvent, Found as FoundEvent, Failed as FailedEvent}
use Rattle.gopher_catalogue.specs.EventOf.{event_data}
use Rattle.gopher_catalogue.specs.Event.{EventData, Opened, Claimed, Found, Failed}
use Rattle.gopher_catalogue.specs.Legal.{IsLegal}
use Rattle.gopher_catalogue.specs.Pages.{page_of_event, pages_found, pages_indexed}
use Rattle.gopher_catalogue.proofs.Steps.{pages_push, length-known}
use Rattle.gopher_catalogue.proofs.FinalAnswers.{pages_found-opened}
use Rattle.gopher_catalogue.proofs.Legal.{legal_record}
use Rattle.gopher_catalogue.proofs.LegalSizes.{found_by, found_most}

-- ---- one more event

pages-append : (events more : List EventData) → pages_found (events ++ more) ≡ pages_found events ++ pages_found more
unfolding pages_found
pages-append events more = flat_map-append page_of_event events more

-- a run of a record's pages is a run of the pages of each longer record
pub stands_on : (run : SegmentData) (events more : List EventData) → IsPrefix events more → IsSliceOf run (pages_found events) → IsSliceOf run (pages_found more)
stands_on run events more grows stands =
    let rest : List PageData = pages_found grows.0 in
    let all : pages_found events ++ rest ≡ pages_found more = sym (pages-append events grows.0) ∙ ap pages_found grows.1 in
    record {
      before = stands.before;
      after = stands.after ++ rest;
      at =
          sym all ∙ ap (λ l. l ++ rest) stands.at
          ∙ append_assoc stands.before (run.pages ++ stands.after) rest
          ∙ ap (λ l. stands.before ++ l) (append_assoc run.pages stands.after rest);
      number = stands.number;
    }

-- truncating before appending doesn't change the truncated result
take-more : {X : Type 0} (n : ℕ) (xs ys : List X) → take n (xs ++ ys) ≡ take n (take n xs ++ ys)
take-more zero xs ys = refl
take-more (suc n) [] ys = refl
take-more (suc n) (x ∷ xs) ys = ap (λ l. x ∷ l) (take-more n xs ys)

pub indexed-none : pages_indexed [] ≡ []
unfolding pages_found
indexed-none = refl

pub indexed-push : (events : List EventData) (event : EventData) → pages_indexed (events ++ event ∷ []) ≡ take 65536 (pages_indexed events ++ page_of_event event)
indexed-push events event = ap (take 65536) (pages_push events event) ∙ take-more 65536 (pages_found events) (page_of_event event)

-- an event without a page doesn't change the index
pub indexed-no_page : (events : List EventData) (event : EventData) → page_of_event event ≡ [] → pages_indexed (events ++ event ∷ []) ≡ pages_indexed events
indexed-no_page events event none = ap (take 65536) (pages_push events event ∙ ap (λ l. pages_found events ++ l) none ∙ append-nil (pages_found events))

pub few_indexed : (events : List EventData) → length (pages_indexed events) ≤ 65536
few_indexed events = omega (arith, length-take 65536 (pages_found events))

-- ---- the page of an event

no_page : (event : Event) → ((n : ℕ) (page : Arc PageData Global) → event ≡ FoundEvent n page → ⊥) → page_of_event (event_data event) ≡ []
no_page (OpenedEvent opening) none = refl
no_page (ClaimedEvent n) none = refl
no_page (FoundEvent n page) none = absurd (none n page refl)
no_page (FailedEvent n why) none = refl

module _ (event : Event) (pages : List PageData) where
  pub none_taken : ((n : ℕ) (page : Arc PageData Global) → event ≡ FoundEvent n page → ⊥) → length pages ≤ 65536 → pages ≡ take 65536 (pages ++ page_of_event (event_data event))
  none_taken none few = sym (ap (λ more. take 65536 (pages ++ more)) (no_page event none) ∙ ap (take 65536) (append-nil pages) ∙ take_all 65536 pages few)

  pub full_taken : length pages ≡ 65536 → pages ≡ take 65536 (pages ++ page_of_event (event_data event))
  full_taken full = sym (take_at pages (page_of_event (event_data event)) 65536 full)

  pub page_taken : (n : ℕ) (page shared : Arc PageData Global) → event ≡ FoundEvent n page → arc_value shared ≡ arc_value page → length pages < 65536 → pages ++ arc_value shared ∷ [] ≡ take 65536 (pages ++ page_of_event (event_data event))
  page_taken n page shared is same few =
      let more : page_of_event (event_data event) ≡ arc_value page ∷ [] = ap (λ e. page_of_event (event_data e)) is in
      ap (λ p. pages ++ p ∷ []) same
      ∙ sym (ap (λ more. take 65536 (pages ++ more)) more ∙ take_all 65536 (pages ++ arc_value page ∷ []) (omega (arith, length_push pages (arc_value page))))

-- ---- the number of pages

-- a record finds one page for each of its finds
pages_size : (events : List EventData) → length (pages_found events) ≡ length (flat_map found_by events)
unfolding pages_found
pages_size [] = refl
pages_size (Opened opening ∷ events) = pages_size events
pages_size (Claimed n ∷ events) = pages_size events
pages_size (Found n page ∷ events) = ap suc (pages_size events)
pages_size (Failed n why ∷ events) = pages_size events

-- the index contains each page that a legal record found
pub all_indexed : (events : List EventData) → IsLegal events → pages_indexed events ≡ pages_found events
all_indexed =
    legal_record (λ r. pages_indexed r ≡ pages_found r)
    (λ opening events legal. take_all 65536 (pages_found (Opened opening ∷ events))
    (omega (arith, pages_size events, found_most opening events legal, length-known opening events, legal.0.few_places, ap length (pages_found-opened opening events))))
