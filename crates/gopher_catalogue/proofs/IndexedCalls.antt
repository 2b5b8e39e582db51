-- The tables of the catalogue at each call, and that they are those of the record after it.
use Rattle.std.proofs.Common.{◌≡◌, ◌≢◌, ℕ, ◌+◌, ◌-◌, ◌≤◌, ◌<◌, Bool, true, false, ◌&&◌, List, [], ◌∷◌, ◌++◌, filter, length, replicate, take, not, position, get_or, Option, Some, None, slice_get, inl, inr, refl, sym, ◌∙◌, ap, subst, arith, leb, ltb, if◌then◌else◌, Result, Ok, Err, OnErr}
use Rattle.std.specs.List.{list_all, position_or_len}
use Rattle.std.proofs.lemmas.List.Sums.{fails_before_first, list_all-from_AllPass}
use Rattle.std.specs.Option.{option_map_or}
use Rattle.std.proofs.lemmas.Bool.{cases_Bool, cases_lt, lt-ltb, le-ltb, leb-true, ltb-true, and_parts}
use Rattle.std.proofs.lemmas.List.{length-append, take_at}
use Rattle.std.proofs.lemmas.List.FromFn.{length-map-range_with_len}
use Rattle.gopher_item.specs.Place.{PlaceData}
use Rattle.gopher_item.specs.Scope.{ScopeData, allows}
use Rattle.gopher_page.specs.Page.{PageData}
use Rattle.gopher_catalogue.specs.declared.frontier.known.Standing.{Standing}
use Rattle.gopher_catalogue.specs.declared.event.Why.{Why}
use Rattle.gopher_catalogue.specs.declared.event.Why.TheVariants.{Read}
use Rattle.gopher_catalogue.specs.declared.fault.OpenFault.{OpenFault}
use Rattle.gopher_catalogue.specs.declared.fault.OpenFault.TheVariants.{SeedOutOfScope, BadPlaces, BadTries}
use Rattle.gopher_catalogue.specs.declared.fault.FoundFault.{FoundFault}
use Rattle.gopher_catalogue.specs.declared.fault.FoundFault.TheVariants.{NotOut, WrongPlace}
use Rattle.gopher_catalogue.specs.Fault.{IsFoundFault}
use Rattle.gopher_catalogue.specs.declared.frontier.sizes.Added.{Added}
use Rattle.gopher_catalogue.specs.Event.{OpeningData, EventData, Opened, Claimed, Found, Failed}
use Rattle.gopher_catalogue.specs.Frontier.{known, dropped, waiting, out, done, is_out}
use Rattle.gopher_catalogue.specs.Legal.{IsLegalOpening, IsOut, IsLegal}
use Rattle.gopher_catalogue.specs.Step.{Take, Idle, Finished, open_fault, turn_of, is_out_in, is_place_at, found_fault, added_by, status_of, places_of}
use Rattle.gopher_catalogue.specs.Turn.{IsTake}
use Rattle.gopher_catalogue.specs.Tables.{is_out_at, unclaimed}
use Rattle.gopher_catalogue.specs.FrontierTables.{FrontierData, AreLimits, Learned, Begins, sizes_of, without_fresh, after_claim, after_find, after_failure}
use Rattle.gopher_catalogue.specs.History.{RecordData, IsOpened, opening_in, later_in}
use Rattle.gopher_catalogue.specs.Indexed.{standing_of, Tells, IsIndexed}
use Rattle.gopher_catalogue.proofs.Consistent.{out_more}
use Rattle.gopher_catalogue.proofs.Legal.{IsLegal-push, IsLegal-opened, legal_record}
use Rattle.gopher_catalogue.proofs.States.{WaitsNow, waits_at, place_waiting}
use Rattle.gopher_catalogue.proofs.LegalSizes.{out_push}
use Rattle.gopher_catalogue.proofs.Calls.{turn-take, turn-idle, turn-finished, is_out_in_is, place_from_test}
use Rattle.gopher_catalogue.proofs.IndexedLemmas.{Tells-begin, Tells-claim, Tells-failure, Tells-find, places-found, dropped-found, standing_at, standing_known}

pub on_err : {T E : Type 0} (r : Result T E) (P : Type 0) → P → OnErr r P
on_err (Ok x) P p = tt
on_err (Err e) P p = p

-- the effect of a page's links, for an equal scope
pub learned_of : (scope scope' : ScopeData) (links : List PlaceData) (before after : FrontierData) (dropped_now : ℕ) → scope ≡ scope' → Learned (filter (allows scope) links) before after dropped_now → Learned (filter (allows scope') links) before after dropped_now
learned_of scope scope' links before after dropped_now e learned = rw (← e) learned

-- a legal record begins with its opening
pub opened : (events : List EventData) → IsLegal events → IsOpened events
opened = legal_record IsOpened (λ opening events legal. refl)

-- the tables belong to a record that is equal
indexed : (opening : OpeningData) (events : List EventData) (record_ : RecordData) (frontier : FrontierData) → record_.events ≡ Opened opening ∷ events → IsLegal (Opened opening ∷ events) → Tells opening events frontier → frontier.out ≤ record_.room → IsIndexed record_ frontier
indexed opening events record_ frontier e legal tells record_room = record { legal = rw e legal; tells = rw e tells; record_room = record_room }

module _ (record_ : RecordData) (frontier : FrontierData) (is : IsIndexed record_ frontier) where
  abbrev opening : OpeningData
  opening = opening_in record_.events

  abbrev later : List EventData
  later = later_in record_.events

  begins : record_.events ≡ Opened opening ∷ later
  begins = opened record_.events is.legal

  legal : IsLegal (Opened opening ∷ later)
  legal = subst IsLegal begins is.legal

  -- ---- reading

  status_is : status_of (Opened opening ∷ later) ≡ record { known = length (known opening later); waiting = length (waiting opening later); out = length (out opening later); done = length (done opening later); dropped = dropped opening later }
  unfolding status_of
  status_is = refl

  pub status_shown : sizes_of frontier ≡ status_of record_.events
  status_shown =
      (λ i. record { known = length (is.tells.places_is i); waiting = length (is.tells.waiting_is i); out = is.tells.out_is i; done = is.tells.done_is i; dropped = is.tells.dropped_is i }) ∙ sym status_is ∙ ap status_of (sym begins)

  places_are : frontier.known.places ≡ places_of (Opened opening ∷ later)
  unfolding places_of
  places_are = is.tells.places_is

  pub places_shown : frontier.known.places ≡ places_of record_.events
  places_shown = places_are ∙ ap places_of (sym begins)

  -- ---- the first waiting number

  module _ (n : ℕ) (first : slice_get frontier.waiting 0 ≡ Some n) where
    first_waits : slice_get (waiting opening later) 0 ≡ Some n
    first_waits = ap (λ l. slice_get l 0) (sym is.tells.waiting_is) ∙ first

    first_state : WaitsNow opening later legal n
    first_state = waits_at opening later legal 0 n first_waits

    pub first_legal : IsLegal (Opened opening ∷ (later ++ Claimed n ∷ []))
    first_legal = IsLegal-push opening later (Claimed n) legal first_waits

    pub first_turn : (place : PlaceData) → slice_get frontier.known.places n ≡ Some place → turn_of record_.events ≡ Take n place
    first_turn place at' = ap turn_of begins ∙ turn-take opening later n place first_waits (ap (λ l. slice_get l n) (sym is.tells.places_is) ∙ at')

    pub first_due : IsTake (turn_of record_.events)
    first_due =
        let there = place_waiting opening later legal n first_waits in
        subst IsTake (sym (ap turn_of begins ∙ turn-take opening later n there.0 first_waits there.1)) tt

  pub none_waits_finished : slice_get frontier.waiting 0 ≡ None → frontier.out ≡ 0 → turn_of record_.events ≡ Finished
  none_waits_finished none no_more = ap turn_of begins ∙ turn-finished opening later (ap (λ l. slice_get l 0) (sym is.tells.waiting_is) ∙ none) (sym is.tells.out_is ∙ no_more)

  pub none_waits_idle : slice_get frontier.waiting 0 ≡ None → frontier.out ≢ 0 → turn_of record_.events ≡ Idle
  none_waits_idle none some = ap turn_of begins ∙ turn-idle opening later (ap (λ l. slice_get l 0) (sym is.tells.waiting_is) ∙ none) (λ e. some (is.tells.out_is ∙ e))

  -- ---- numbers that are out

  out_is_out : (n : ℕ) → is_out_at frontier.known.standings n ≡ is_out_in (Opened opening ∷ later) n
  out_is_out n =
      elim (cases_lt n (length (known opening later))) as (λ c. is_out_at frontier.known.standings n ≡ is_out_in (Opened opening ∷ later) n) [
        | inl below ↦
            let stands = standing_at opening later frontier is.tells n below in
            ap (λ o. option_map_or (λ standing. standing.is_out) o false) stands ∙ sym (is_out_in_is opening later n ∙ ap (λ b. b && is_out later n) (lt-ltb n (length (known opening later)) below))
        | inr beyond ↦
            let past : slice_get frontier.known.standings n ≡ None = none_past (slice_get frontier.known.standings n) refl beyond in
            ap (λ o. option_map_or (λ standing. standing.is_out) o false) past ∙ sym (is_out_in_is opening later n ∙ ap (λ b. b && is_out later n) (le-ltb n (length (known opening later)) beyond))
      ]
    where
      none_past : (o : Option Standing) → slice_get frontier.known.standings n ≡ o → length (known opening later) ≤ n → slice_get frontier.known.standings n ≡ None
      none_past None e beyond = e
      none_past (Some standing) e beyond = let known_one = (standing_known opening later frontier is.tells n standing e).0 in absurd (omega arith)

  pub out_shown : (n : ℕ) → is_out_at frontier.known.standings n ≡ is_out_in record_.events n
  out_shown n = out_is_out n ∙ ap (λ events. is_out_in events n) (sym begins)

  module _ (n : ℕ) (outside : is_out_at frontier.known.standings n ≡ true) where
    pub out_tested : is_out_in record_.events n ≡ true
    out_tested = sym (out_shown n) ∙ outside

    pub is_out_now : IsOut opening later n
    is_out_now =
        let parts = and_parts (ltb n (length (known opening later))) (is_out later n) (sym (is_out_in_is opening later n) ∙ sym (out_is_out n) ∙ outside) in
        record { is_known = ltb-true n (length (known opening later)) parts.0; is_out = parts.1 }

    pub some_out : 0 < frontier.out
    some_out = omega (arith, out_push opening later (Failed n Read) legal (IsLegal-push opening later (Failed n Read) legal is_out_now), is.tells.out_is)

  pub place_shown : (n : ℕ) (place : PlaceData) → is_place_at frontier.known.places n place ≡ is_place_at (places_of record_.events) n place
  place_shown n place = ap (λ places. is_place_at places n place) places_shown

  -- ---- the fault of a page

  pub is_refused : (n : ℕ) (place : PlaceData) (events : List EventData) → record_.events ≡ events → (due : Option FoundFault) (fault : FoundFault) → found_fault record_.events n place ≡ due → IsFoundFault due fault → IsFoundFault (found_fault events n place) fault
  is_refused n place events view due fault e is = subst (λ d. IsFoundFault d fault) (sym e ∙ ap (λ es. found_fault es n place) view) is

  pub fault_not_out : (n : ℕ) (place : PlaceData) → is_out_at frontier.known.standings n ≡ false → found_fault record_.events n place ≡ Some NotOut
  fault_not_out n place gone = rw (sym (out_shown n) ∙ gone) refl

  module _ (n : ℕ) (outside : is_out_at frontier.known.standings n ≡ true) (place : PlaceData) where
    pub fault_wrong : is_place_at frontier.known.places n place ≡ false → found_fault record_.events n place ≡ Some WrongPlace
    fault_wrong wrong = rw (out_tested n outside, sym (place_shown n place) ∙ wrong) refl

    pub fault_none : is_place_at frontier.known.places n place ≡ true → found_fault record_.events n place ≡ None
    fault_none right = rw (out_tested n outside, sym (place_shown n place) ∙ right) refl

  -- ---- the tables after a call

  pub after_claimed : (h1 h2 : RecordData) (f1 : FrontierData) (n : ℕ) → slice_get frontier.waiting 0 ≡ Some n → h1.events ≡ record_.events → frontier.out + 2 ≤ h1.room → f1 ≡ after_claim frontier n → h2.events ≡ h1.events ++ Claimed n ∷ [] → h2.room + 1 ≡ h1.room → IsIndexed h2 f1
  after_claimed h1 h2 f1 n first l1 r1 e1 l2 r2 =
      let tells = Tells-claim opening later frontier n legal is.tells first in
      indexed opening (later ++ Claimed n ∷ []) h2 f1 (l2 ∙ ap (λ l. l ++ Claimed n ∷ []) (l1 ∙ begins)) (first_legal n first) (subst (Tells opening (later ++ Claimed n ∷ [])) (sym e1) tells) (omega (arith, ap (λ f. f.out) e1))

  pub after_failed : (h1 : RecordData) (f1 : FrontierData) (n : ℕ) (why : Why) → is_out_at frontier.known.standings n ≡ true → f1 ≡ after_failure frontier n → h1.events ≡ record_.events ++ Failed n why ∷ [] → h1.room + 1 ≡ record_.room → IsIndexed h1 f1
  after_failed h1 f1 n why outside e1 l1 r1 =
      let gone = is_out_now n outside in
      let some = some_out n outside in
      let tells = Tells-failure opening later frontier n why legal is.tells gone in
      indexed opening (later ++ Failed n why ∷ []) h1 f1 (l1 ∙ ap (λ l. l ++ Failed n why ∷ []) begins) (IsLegal-push opening later (Failed n why) legal gone) (subst (Tells opening (later ++ Failed n why ∷ [])) (sym e1) tells) (omega (arith, ap (λ f. f.out) e1, is.record_room))

  -- ---- a find

  module _ (f1 : FrontierData) (n : ℕ) (page : PageData) (added : Added) (learned : Learned (filter (allows opening.scope) page.links) frontier f1 added.dropped) where
    pub still_out : is_out_at frontier.known.standings n ≡ true → is_out_at f1.known.standings n ≡ true
    still_out outside = ap (λ l. is_out_at l n) learned.grows.standings ∙ out_more frontier.known.standings (length learned.grows.more) n ∙ outside

    -- nothing stays of a page whose find isn't recorded
    pub unlearned : without_fresh f1 ≡ frontier
    unlearned =
        let count : length f1.known.places - f1.fresh ≡ length frontier.known.places = omega (arith, learned.fresh, is.tells.none_fresh, ap length learned.grows.places, length-append frontier.known.places learned.grows.more) in
        let long : length frontier.known.standings ≡ length frontier.known.places = ap length is.tells.standings_is ∙ length-map-range_with_len (standing_of later) 0 (length (known opening later)) ∙ ap length (sym is.tells.places_is) in
        let places : take (length f1.known.places - f1.fresh) f1.known.places ≡ frontier.known.places = ap (λ k. take k f1.known.places) count ∙ ap (take (length frontier.known.places)) learned.grows.places ∙ take_at frontier.known.places learned.grows.more (length frontier.known.places) refl in
        let standings : take (length f1.known.places - f1.fresh) f1.known.standings ≡ frontier.known.standings =
        ap (λ k. take k f1.known.standings) (count ∙ sym long) ∙ ap (take (length frontier.known.standings)) learned.grows.standings ∙ take_at frontier.known.standings (replicate (length learned.grows.more) unclaimed) (length frontier.known.standings) refl in
        λ i. record {
          limit = learned.keeps.limit i;
          tries = learned.keeps.tries i;
          known = record { places = places i; standings = standings i };
          fresh = sym is.tells.none_fresh i;
          waiting = learned.keeps.waiting i;
          out = learned.keeps.out i;
          done = learned.keeps.done i;
          dropped = learned.keeps.dropped i;
        }

    right_place : is_place_at frontier.known.places n page.place ≡ true → slice_get (known opening later) n ≡ Some page.place
    right_place right = place_from_test (known opening later) n page.place (ap (λ places. is_place_at places n page.place) (sym is.tells.places_is) ∙ right)

    added_is : added_by (Opened opening ∷ later) n page
        ≡ record { fresh = length (known opening (later ++ Found n page ∷ [])) - length (known opening later); dropped = dropped opening (later ++ Found n page ∷ []) - dropped opening later }
    unfolding added_by status_of
    added_is = refl

    pub added_shown : added.fresh + length frontier.known.places ≡ length f1.known.places → added ≡ added_by record_.events n page
    added_shown grown =
        let places = places-found opening later frontier f1 n page added.dropped learned is.tells in
        let gone = dropped-found opening later frontier f1 n page added.dropped learned is.tells in
        let fresh : added.fresh ≡ length (known opening (later ++ Found n page ∷ [])) - length (known opening later) = omega (arith, ap length places, ap length is.tells.places_is) in
        let lost : added.dropped ≡ dropped opening (later ++ Found n page ∷ []) - dropped opening later = omega (arith, gone) in
        (λ i. record { fresh = fresh i; dropped = lost i }) ∙ sym added_is ∙ ap (λ events. added_by events n page) (sym begins)

    pub after_found : (h1 : RecordData) (f2 : FrontierData) → is_out_at frontier.known.standings n ≡ true → is_place_at frontier.known.places n page.place ≡ true → f2 ≡ after_find f1 n added.dropped → h1.events ≡ record_.events ++ Found n page ∷ [] → h1.room + 1 ≡ record_.room → IsIndexed h1 f2
    after_found h1 f2 outside right e2 l1 r1 =
        let gone = is_out_now n outside in
        let some = some_out n outside in
        let there = right_place right in
        let tells2 = Tells-find opening later frontier f1 n page added.dropped learned legal is.tells gone there in
        indexed opening (later ++ Found n page ∷ []) h1 f2 (l1 ∙ ap (λ l. l ++ Found n page ∷ []) begins) (IsLegal-push opening later (Found n page) legal (gone, there)) (subst (Tells opening (later ++ Found n page ∷ [])) (sym e2) tells2) (omega (arith, ap (λ f. f.out) e2, learned.keeps.out, is.record_room))

-- ---- the beginning

none_refused : (test : PlaceData → Bool) (seeds : List PlaceData) → position (λ seed. not (test seed)) seeds ≡ None → list_all test seeds ≡ true
none_refused test seeds h =
    let refuses : PlaceData → Bool = λ seed. not (test seed) in
    list_all-from_AllPass test seeds (λ k d within.
    elim (cases_Bool (test (get_or seeds k d))) as (λ c. test (get_or seeds k d) ≡ true) [
      | inl passes ↦ passes
      | inr misses ↦
          elim (cases_lt (position_or_len refuses seeds) (length seeds)) as (λ c. test (get_or seeds k d) ≡ true) [
            | inl some ↦ let there : position refuses seeds ≡ Some (position_or_len refuses seeds) = rw (lt-ltb (position_or_len refuses seeds) (length seeds) some) refl in cc
            | inr none ↦ let fails = fails_before_first refuses seeds k d (omega arith) in let passes : not (test (get_or seeds k d)) ≡ true = ap not misses in cc
          ]
    ])

opens : (o : Option ℕ) (p t : Bool) → ◌≡◌ {A = Option OpenFault} (option_map_or (λ index. Some (SeedOutOfScope index)) o (if not p then Some BadPlaces else (if not t then Some BadTries else None))) None → (o ≡ None) × (p ≡ true) × (t ≡ true)
opens (Some index) p t h = cc
opens None true true h = (refl, refl, refl)
opens None true false h = cc
opens None false t h = cc

pub legal_opening : (scope : ScopeData) (seeds : List PlaceData) (limit tries : ℕ) → open_fault scope seeds limit tries ≡ None → IsLegalOpening (record { scope = scope; seeds = seeds; limit = limit; tries = tries })
legal_opening scope seeds limit tries h =
    let tests = opens (position (λ seed. not (allows scope seed)) seeds) (leb 1 limit && leb limit 65536) (leb 1 tries && leb tries 5) h in
    let limits = and_parts (leb 1 limit) (leb limit 65536) tests.1 in
    let chances = and_parts (leb 1 tries) (leb tries 5) tests.2 in
    record {
      some_place = leb-true 1 limit limits.0;
      few_places = leb-true limit 65536 limits.1;
      some_try = leb-true 1 tries chances.0;
      few_tries = leb-true tries 5 chances.1;
      allowed_seeds = none_refused (allows scope) seeds tests.0;
    }

pub legal_limits : (o : OpeningData) → IsLegalOpening o → AreLimits o.limit o.tries
legal_limits o legal = record { few_places = legal.few_places; some_try = legal.some_try; few_tries = legal.few_tries }

pub begun : (opening : OpeningData) (record_ : RecordData) (frontier : FrontierData) → IsLegalOpening opening → Begins opening.limit opening.tries opening.seeds frontier → record_.events ≡ Opened opening ∷ [] → IsIndexed record_ frontier
begun opening record_ frontier legal begins e = indexed opening [] record_ frontier e (IsLegal-opened opening legal) (Tells-begin opening frontier (IsLegal-opened opening legal) begins) (omega (arith, begins.out))
