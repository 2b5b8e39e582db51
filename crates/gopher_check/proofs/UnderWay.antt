-- A crawl of a table: what one more visit keeps, and what holds once the crawl is finished.
use Rattle.std.proofs.Common.{◌≡◌, ℕ, ◌≤◌, Bool, true, false, cond, List, [], ◌∷◌, ◌++◌, length, take, inl, inr, Option, Some, None, refl, sym, ◌∙◌, ap, subst, arith, eqb, slice_get}
use Rattle.std.specs.Option.{option_map_or}
use Rattle.std.proofs.lemmas.Bool.{false≢true, or_cases, and_parts, eqb-true}
use Rattle.std.proofs.lemmas.List.{take-append-le, take_at}
use Rattle.gopher_item.specs.Place.{PlaceData}
use Rattle.gopher_catalogue.specs.Opening.{OpeningData}
use Rattle.gopher_catalogue.specs.declared.event.EventData.{EventData}
use Rattle.gopher_catalogue.specs.declared.event.EventData.TheVariants.{Opened, Claimed, Found, Failed}
use Rattle.gopher_catalogue.specs.History.{opening_in}
use Rattle.gopher_catalogue.specs.Frontier.{known, waiting, out, dropped}
use Rattle.gopher_catalogue.specs.Legal.{IsLegal}
use Rattle.gopher_catalogue.specs.Step.{TurnData, Take, Idle, Finished, turn_of, status_of, is_finished}
use Rattle.gopher_catalogue.specs.Pages.{pages_found}
use Rattle.gopher_catalogue.specs.Closure.{OutcomeData, Fetched, Unfetched, OutcomeTable, AreReachedPages, last_outcome, IsTold, Agrees, IsComplete}
use Rattle.gopher_catalogue.proofs.Lists.{slice_get_push_cases}
use Rattle.gopher_catalogue.proofs.Steps.{known_same}
use Rattle.gopher_catalogue.proofs.LastOutcome.{last_outcome_at}
use Rattle.gopher_catalogue.proofs.Reach.{known_stays, holds_reach}
use Rattle.gopher_check.specs.Crawl.{IsCrawlOf, CrawlsFindReachedPages, IsToldAfter, IsUnderWay, outcome_event, after_visit}

-- ---- records

pub opening_at : (record_ : List EventData) (opening : OpeningData) → slice_get record_ 0 ≡ Some (Opened opening) → opening_in record_ ≡ opening
opening_at [] opening h = absurd (cc)
opening_at (Opened other ∷ events) opening h = cc
opening_at (Claimed n ∷ events) opening h = absurd (cc)
opening_at (Found n page ∷ events) opening h = absurd (cc)
opening_at (Failed n why ∷ events) opening h = absurd (cc)

nil_from_length : {X : Type 0} (xs : List X) → length xs ≡ 0 → xs ≡ []
nil_from_length [] h = refl
nil_from_length (x ∷ xs) h = absurd (omega arith)

-- ---- the place of a claim

taken_at : (places : List PlaceData) (m n : ℕ) (place : PlaceData) (here : Option PlaceData) → slice_get places m ≡ here → option_map_or (Take m) here Idle ≡ Take n place → slice_get places n ≡ Some place
taken_at places m n place None e h = absurd (cc)
taken_at places m n place (Some other) e h =
    let number : m ≡ n = cc in
    let same : other ≡ place = cc in
    subst (λ k. slice_get places k ≡ Some place) number (e ∙ ap Some same)

taken : (places : List PlaceData) (first : Option ℕ) (none : Bool) (n : ℕ) (place : PlaceData) → option_map_or (λ m. option_map_or (Take m) (slice_get places m) Idle) first (cond none Finished Idle) ≡ Take n place → slice_get places n ≡ Some place
taken places None true n place h = absurd (cc)
taken places None false n place h = absurd (cc)
taken places (Some m) none n place h = taken_at places m n place (slice_get places m) refl h

turn_place : (opening : OpeningData) (events : List EventData) (n : ℕ) (place : PlaceData) → turn_of (Opened opening ∷ events) ≡ Take n place → slice_get (known opening events) n ≡ Some place
unfolding turn_of
turn_place opening events n place h = taken (known opening events) (slice_get (waiting opening events) 0) (eqb (length (out opening events)) 0) n place h

-- ---- one more event

told_push : (opening : OpeningData) (table : OutcomeTable) (events : List EventData) (e : EventData) → ((k : ℕ) (event : EventData) → slice_get events k ≡ Some event → IsToldAfter opening table (take k events) event) → IsToldAfter opening table events e
    → (k : ℕ) (event : EventData) → slice_get (events ++ e ∷ []) k ≡ Some event → IsToldAfter opening table (take k (events ++ e ∷ [])) event
told_push opening table events e told last k event h =
    elim (slice_get_push_cases events e k event h) as (λ q. IsToldAfter opening table (take k (events ++ e ∷ [])) event) [
      | inl old ↦
          let le : k ≤ length events = omega arith in
          subst (λ before. IsToldAfter opening table before event) (sym (take-append-le k events (e ∷ []) le)) (told k event old.1)
      | inr new ↦
          let whole : take k (events ++ e ∷ []) ≡ events = ap (λ j. take j (events ++ e ∷ [])) new.0 ∙ take_at events (e ∷ []) (length events) refl in
          subst (λ before. IsToldAfter opening table before event) (sym whole) (subst (λ x. IsToldAfter opening table events x) new.1 last)
    ]

claim_told : (opening : OpeningData) (table : OutcomeTable) (before : List EventData) (n : ℕ) → IsToldAfter opening table before (Claimed n)
claim_told opening table before n number is = absurd (false≢true is)

outcome_told : (opening : OpeningData) (outcome_at : PlaceData → OutcomeData) (before : List EventData) (n : ℕ) (place : PlaceData) → slice_get (known opening before) n ≡ Some place → (outcome : OutcomeData) → outcome ≡ outcome_at place
    → IsToldAfter opening (λ p. Some (outcome_at p)) before (outcome_event opening.scope n place outcome)
outcome_told opening outcome_at before n place at' (Fetched bytes) e m is =
    let same : m ≡ n = eqb-true m n (elim (or_cases (eqb m n) false is) as (λ q. eqb m n ≡ true) [ inl t ↦ t | inr f ↦ absurd (false≢true f) ]) in
    (place, subst (λ k. slice_get (known opening before) k ≡ Some place) (sym same) at', (bytes, sym (ap Some e), refl))
outcome_told opening outcome_at before n place at' (Unfetched why) e m is =
    let same : m ≡ n = eqb-true m n is in
    (place, subst (λ k. slice_get (known opening before) k ≡ Some place) (sym same) at', sym (ap Some e))

-- ---- a crawl under way

pub opened_under_way : (opening : OpeningData) (table : OutcomeTable) (record_ : List EventData) → record_ ≡ Opened opening ∷ [] → IsLegal record_ → IsUnderWay opening table record_
opened_under_way opening table record_ is legal = record { events = []; record_is = is; legal = legal; told = λ k event h. absurd (cc) }

pub visited : (opening : OpeningData) (outcome_at : PlaceData → OutcomeData) (old new : List EventData) → IsLegal new → new ≡ after_visit outcome_at old (turn_of old) → IsUnderWay opening (λ p. Some (outcome_at p)) old → IsUnderWay opening (λ p. Some (outcome_at p)) new
visited opening outcome_at old new legal is way = cases (turn_of old) refl where
  cases : (turn : TurnData) → turn_of old ≡ turn → IsUnderWay opening (λ p. Some (outcome_at p)) new
  cases (Take n place) e =
      let events : List EventData = way.events in
      let event : EventData = outcome_event opening.scope n place (outcome_at place) in
      let claimed : List EventData = events ++ Claimed n ∷ [] in
      let new_is : new ≡ Opened opening ∷ (claimed ++ event ∷ []) = is ∙ ap (after_visit outcome_at old) e ∙ ap (λ r. after_visit outcome_at r (Take n place)) way.record_is in
      let at' : slice_get (known opening events) n ≡ Some place = turn_place opening events n place (ap turn_of (sym way.record_is) ∙ e) in
      let still : slice_get (known opening claimed) n ≡ Some place = ap (λ ps. slice_get ps n) (known_same opening events (Claimed n) refl) ∙ at' in
      record {
        events = claimed ++ event ∷ [];
        record_is = new_is;
        legal = legal;
        told = told_push opening (λ p. Some (outcome_at p)) claimed event
            (told_push opening (λ p. Some (outcome_at p)) events (Claimed n) way.told (claim_told opening (λ p. Some (outcome_at p)) events n))
            (outcome_told opening outcome_at claimed n place still (outcome_at place) refl);
      }
  cases Idle e = subst (IsUnderWay opening (λ p. Some (outcome_at p))) (sym (is ∙ ap (after_visit outcome_at old) e)) way
  cases Finished e = subst (IsUnderWay opening (λ p. Some (outcome_at p))) (sym (is ∙ ap (after_visit outcome_at old) e)) way

-- ---- a finished crawl

agrees_from_told : (opening : OpeningData) (events : List EventData) (table : OutcomeTable) → ((k : ℕ) (event : EventData) → slice_get events k ≡ Some event → IsToldAfter opening table (take k events) event) → Agrees opening events table
agrees_from_told opening events table told n place at' = cases (last_outcome events n) refl where
  cases : (last : Option EventData) → last_outcome events n ≡ last → IsTold opening.scope place (table place) (last_outcome events n)
  cases None e = subst (IsTold opening.scope place (table place)) (sym e) tt
  cases (Some event) e =
      let where' = last_outcome_at n events event e in
      let one = told where'.0 event where'.1 n where'.2 in
      let stays : slice_get (known opening events) n ≡ Some one.0 = known_stays opening events where'.0 n one.0 one.1 in
      let same : one.0 ≡ place = cc in
      subst (IsTold opening.scope place (table place)) (sym e) (subst (λ p. IsTold opening.scope p (table p) (Some event)) same one.2)

pub crawl_finished : (opening : OpeningData) (table : OutcomeTable) (record_ : List EventData) → is_finished record_ ≡ true → IsUnderWay opening table record_ → IsCrawlOf opening table record_
crawl_finished opening table record_ finished way = record {
  events = way.events;
  record_is = way.record_is;
  legal = way.legal;
  finished = finished;
  agrees = agrees_from_told opening way.events table way.told;
}

-- ---- the law

none_left : (opening : OpeningData) (events : List EventData) → is_finished (Opened opening ∷ events) ≡ true → (waiting opening events ≡ []) × (out opening events ≡ [])
unfolding status_of
none_left opening events h =
    let parts = and_parts (eqb (length (waiting opening events)) 0) (eqb (length (out opening events)) 0) h in
    (nil_from_length (waiting opening events) (eqb-true (length (waiting opening events)) 0 parts.0), nil_from_length (out opening events) (eqb-true (length (out opening events)) 0 parts.1))

none_dropped : (opening : OpeningData) (events : List EventData) → (status_of (Opened opening ∷ events)).dropped ≡ 0 → dropped opening events ≡ 0
unfolding status_of
none_dropped opening events h = h

opened_pages : (opening : OpeningData) (events : List EventData) → pages_found (Opened opening ∷ events) ≡ pages_found events
unfolding pages_found
opened_pages opening events = refl

pub finds_reached : CrawlsFindReachedPages
finds_reached opening table record_ crawl none =
    let events : List EventData = crawl.events in
    let left = none_left opening events (subst (λ r. is_finished r ≡ true) crawl.record_is crawl.finished) in
    let complete : IsComplete opening events table = record {
      legal = subst IsLegal crawl.record_is crawl.legal;
      none_waits = left.0;
      none_out = left.1;
      none_dropped = none_dropped opening events (subst (λ r. (status_of r).dropped ≡ 0) crawl.record_is none);
      agrees = crawl.agrees;
    } in
    subst (AreReachedPages opening.scope opening.seeds table) (sym (ap pages_found crawl.record_is ∙ opened_pages opening events)) (holds_reach opening events table complete).pages_reached
