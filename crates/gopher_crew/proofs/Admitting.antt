-- Records whose outcomes are admitted.
use Rattle.std.proofs.Common.{◌≡◌, ℕ, zero, suc, ◌<◌, ◌≤◌, inl, inr, true, false, Bool, ◌||◌, ◌==◌, List, [], ◌∷◌, ◌++◌, length, take, slice_get, Option, None, Some, Result, Ok, Err, IsTrue, cond, refl, sym, ap, subst, ◌∙◌, arith}
use Rattle.std.proofs.lemmas.List.{take-append-le, take_at}
use Rattle.std.proofs.lemmas.Option.{slice_get_within}
use Rattle.std.proofs.lemmas.Bool.{eqb-true, false≢true}
use Rattle.std.specs.Prelude.{IfOk, IfErr}
use Rattle.std.specs.Global.{Vec}
use Rattle.std.specs.Option.{option_map_or}
use mathlib.Core.List.{IsPrefix}
use Rattle.gopher_item.specs.Place.{PlaceData}
use Rattle.gopher_item.specs.Scope.{ScopeData}
use Rattle.gopher_text.specs.declared.reply_reader.TheConstants.{MAX_REPLY}
use Rattle.gopher_page.specs.Page.{PageData, page_of}
use Rattle.gopher_catalogue.specs.declared.event.EventData.{EventData}
use Rattle.gopher_catalogue.specs.declared.event.EventData.TheVariants.{Opened, Claimed, Found, Failed}
use Rattle.gopher_catalogue.specs.declared.event.Why.{Why}
use Rattle.gopher_catalogue.specs.declared.event.Why.TheVariants.{NoMemory}
use Rattle.gopher_catalogue.specs.Closure.{OutcomeData, Fetched, Unfetched, is_outcome_of}
use Rattle.gopher_catalogue.specs.Frontier.{known, waiting, out}
use Rattle.gopher_catalogue.specs.Legal.{IsLegal}
use Rattle.gopher_catalogue.specs.Opening.{OpeningData}
use Rattle.gopher_catalogue.specs.Step.{TurnData, Take, Idle, Finished, turn_of, after_turn, places_of}
use Rattle.gopher_catalogue.proofs.Lists.{slice_get_push_cases, slice_get-append_left}
use Rattle.gopher_catalogue.proofs.Reach.{known_stays}
use Rattle.gopher_crew.specs.Admitted.{EventRule, IsPlaceIn, IsAdmitted, AllAdmitted, MayAdd}
use Rattle.gopher_crew.specs.Kept.{Later, Claims, IsOpeningOf}
use Rattle.gopher_crew.specs.Rounds.{outcome_of, AdmitsFetched, MayHandIn}
use Rattle.gopher_crew.specs.Share.{ShareData}
use Rattle.gopher_crew.specs.Work.{Settles}
use Rattle.gopher_crew.proofs.Prefixes.{prefix_trans, prefix_push}

-- ---- one more event

each_push : (admits : EventRule) (record_ : List EventData) (event : EventData) → AllAdmitted admits record_ → IsAdmitted admits record_ event
    → (k : ℕ) (e : EventData) → slice_get (record_ ++ event ∷ []) k ≡ Some e → IsAdmitted admits (take k (record_ ++ event ∷ [])) e
each_push admits record_ event all one k e at' =
    elim (slice_get_push_cases record_ event k e at') as (λ c. IsAdmitted admits (take k (record_ ++ event ∷ [])) e) [
      | inl old ↦
          let le : k ≤ length record_ = omega arith in
          subst (λ (before : List EventData). IsAdmitted admits before e) (sym (take-append-le k record_ (event ∷ []) le)) (all.each k e old.1)
      | inr new ↦
          let same : take k (record_ ++ event ∷ []) ≡ record_ = take_at record_ (event ∷ []) k (sym new.0) in
          subst (λ (before : List EventData). IsAdmitted admits before e) (sym same) (subst (λ x. IsAdmitted admits record_ x) new.1 one)
    ]

admitted_push : (admits : EventRule) (record_ : List EventData) (event : EventData) → AllAdmitted admits record_ → IsAdmitted admits record_ event → AllAdmitted admits (record_ ++ event ∷ [])
admitted_push admits record_ event all one = record { each = each_push admits record_ event all one }

-- a claim is no outcome
claim_admitted : (admits : EventRule) (record_ : List EventData) (number : ℕ) → IsAdmitted admits record_ (Claimed number)
claim_admitted admits record_ number other place is at' = absurd (false≢true is)

-- a record after a turn
pub turn_admitted : (admits : EventRule) (record_ : List EventData) (turn : TurnData) → AllAdmitted admits record_ → AllAdmitted admits (after_turn record_ turn)
turn_admitted admits record_ (Take number place) all = admitted_push admits record_ (Claimed number) all (claim_admitted admits record_ number)
turn_admitted admits record_ Idle all = all
turn_admitted admits record_ Finished all = all

-- a record after an event that may be added
pub added_admitted : (admits : EventRule) (seen record_ : List EventData) (event : EventData) → MayAdd admits seen event → IsPrefix seen record_ → IsLegal record_
    → AllAdmitted admits record_ → AllAdmitted admits (record_ ++ event ∷ [])
added_admitted admits seen record_ event may begins legal all = admitted_push admits record_ event all (may.later record_ begins legal)

-- ---- prefixes

-- an event that may be added after less was seen
pub may_add_later : (admits : EventRule) (seen later : List EventData) (event : EventData) → MayAdd admits seen event → IsPrefix seen later → MayAdd admits later event
may_add_later admits seen later event may begins = record { later = λ before more legal. may.later before (prefix_trans seen later before begins more) legal }

each_prefix : (admits : EventRule) (xs ys : List EventData) → IsPrefix xs ys → AllAdmitted admits ys
    → (k : ℕ) (event : EventData) → slice_get xs k ≡ Some event → IsAdmitted admits (take k xs) event
each_prefix admits xs ys begins all k event at' =
    let within : k < length xs = slice_get_within xs k event at' in
    let le : k ≤ length xs = omega arith in
    let there : slice_get ys k ≡ Some event = ap (λ l. slice_get l k) (sym begins.1) ∙ slice_get-append_left xs begins.0 k within ∙ at' in
    let same : take k ys ≡ take k xs = ap (take k) (sym begins.1) ∙ take-append-le k xs begins.0 le in
    subst (λ (before : List EventData). IsAdmitted admits before event) same (all.each k event there)

-- a prefix of a record whose outcomes are admitted
pub prefix_admitted : (admits : EventRule) (xs ys : List EventData) → IsPrefix xs ys → AllAdmitted admits ys → AllAdmitted admits xs
prefix_admitted admits xs ys begins all = record { each = each_prefix admits xs ys begins all }

-- ---- known places

-- the places of an opened record
pub places_known : (opening : OpeningData) (events : List EventData) → places_of (Opened opening ∷ events) ≡ known opening events
unfolding places_of
places_known opening events = refl

place_stays : (opening : OpeningData) (events rest : List EventData) (number : ℕ) (place : PlaceData)
    → IsPlaceIn (Opened opening ∷ events) number place → IsPlaceIn (Opened opening ∷ events ++ rest) number place
place_stays opening events rest number place at' =
    let early : slice_get (known opening (take (length events) (events ++ rest))) number ≡ Some place =
    ap (λ es. slice_get (known opening es) number) (take_at events rest (length events) refl) ∙ ap (λ ps. slice_get ps number) (sym (places_known opening events)) ∙ at' in
    ap (λ ps. slice_get ps number) (places_known opening (events ++ rest)) ∙ known_stays opening (events ++ rest) (length events) number place early

-- a number keeps its place
pub later_place : (seen before : List EventData) (number : ℕ) (place : PlaceData) → IsPrefix seen before → IsPlaceIn seen number place → IsPlaceIn before number place
unfolding places_of
later_place [] before number place begins at' = absurd (cc (at'))
later_place (Opened opening ∷ events) before number place begins at' =
    subst (λ (l : List EventData). IsPlaceIn l number place) begins.1 (place_stays opening events begins.0 number place at')
later_place (Claimed n ∷ events) before number place begins at' = absurd (cc (at'))
later_place (Found n page ∷ events) before number place begins at' = absurd (cc (at'))
later_place (Failed n why ∷ events) before number place begins at' = absurd (cc (at'))

-- ---- the place of a claim

no_take : (b : Bool) (number : ℕ) (place : PlaceData) → cond b Finished Idle ≡ Take number place → ⊥
no_take true number place t = absurd (cc (t))
no_take false number place t = absurd (cc (t))

taken_place : (first : Option ℕ) (at' : ℕ → Option PlaceData) (rest : TurnData) → ((number : ℕ) (place : PlaceData) → rest ≡ Take number place → ⊥)
    → (number : ℕ) (place : PlaceData) → option_map_or (λ n. option_map_or (Take n) (at' n) Idle) first rest ≡ Take number place → at' number ≡ Some place
taken_place None at' rest none number place t = absurd (none number place t)
taken_place (Some n) at' rest none number place t = inner (at' n) refl t
  where
    inner : (o : Option PlaceData) → at' n ≡ o → option_map_or (Take n) o Idle ≡ Take number place → at' number ≡ Some place
    inner None e t = absurd (cc (t))
    inner (Some p) e t =
        let same : n ≡ number = cc (t) in
        let place' : p ≡ place = cc (t) in
        ap at' (sym same) ∙ e ∙ ap Some place'

turn_place : (before : List EventData) (number : ℕ) (place : PlaceData) → turn_of before ≡ Take number place → IsPlaceIn before number place
unfolding turn_of places_of
turn_place [] number place t = absurd (cc (t))
turn_place (Opened opening ∷ events) number place t =
    taken_place (slice_get (waiting opening events) 0) (slice_get (known opening events)) (cond (length (out opening events) == 0) Finished Idle)
    (no_take (length (out opening events) == 0)) number place t
turn_place (Claimed n ∷ events) number place t = absurd (cc (t))
turn_place (Found n page ∷ events) number place t = absurd (cc (t))
turn_place (Failed n why ∷ events) number place t = absurd (cc (t))

-- after a claim its number is that of its place
pub claimed_place : (number : ℕ) (place : PlaceData) (old claimed : ShareData) → Later old.seen (Claims (Take number place) claimed) → IsPlaceIn claimed.seen number place
claimed_place number place old claimed later =
    subst (λ (l : List EventData). IsPlaceIn l number place) (sym later.holds.is_after)
    (later_place later.before (later.before ++ Claimed number ∷ []) number place (prefix_push later.before (Claimed number)) (turn_place later.before number place later.holds.is_turn))

-- ---- what a worker hands in

-- the outcomes of a number
pub found_number : (m n : ℕ) (page : PageData) → IsTrue (is_outcome_of m (Found n page)) → m ≡ n
found_number m n page is = eqb-true m n (or_false (m == n) is)
  where
    or_false : (b : Bool) → (b || false) ≡ true → b ≡ true
    or_false true h = refl
    or_false false h = h

pub failed_number : (m n : ℕ) (why : Why) → IsTrue (is_outcome_of m (Failed n why)) → m ≡ n
failed_number m n why is = eqb-true m n is

-- an event of a number, which is admitted for its place, may be added
may_add : (admits : EventRule) (seen : List EventData) (number : ℕ) (place : PlaceData) (event : EventData) → ((m : ℕ) → IsTrue (is_outcome_of m event) → m ≡ number)
    → IsPlaceIn seen number place → admits place event → MayAdd admits seen event
may_add admits seen number place event of_number at' one = record { later = λ before begins legal m other is there. of before begins m other is there }
  where
    of : (before : List EventData) → IsPrefix seen before → (m : ℕ) (other : PlaceData) → IsTrue (is_outcome_of m event) → IsPlaceIn before m other → admits other event
    of before begins m other is there =
        let same : m ≡ number = of_number m is in
        let here : slice_get (places_of before) m ≡ Some place = ap (slice_get (places_of before)) same ∙ later_place seen before number place begins at' in
        let place' : place ≡ other = cc (here, there) in
        subst (λ (p : PlaceData). admits p event) place' one

pub may_hand_in : (admits : EventRule) {F : Type 0} (fetches : F → F → PlaceData → ℕ → OutcomeData → Type 0) (opened : List EventData) (number : ℕ) (place place' : PlaceData)
    (opening : OpeningData) (scope : ScopeData) (old new : F) (seen : List EventData) (fetched : Result (Vec ℕ) Why) (settled : Result PageData Why)
    → AdmitsFetched admits fetches opened → IsPlaceIn seen number place → place' ≡ place → IsOpeningOf opened opening → scope ≡ opening.scope
    → fetches old new place' MAX_REPLY (outcome_of fetched)
    → IfOk fetched (λ bytes. Settles scope place bytes.items settled) → IfErr fetched (λ why. settled ≡ Err why)
    → MayHandIn admits number settled seen
may_hand_in admits {F} fetches opened number place place' opening scope old new seen fetched settled rule at' same opens of_opening got made unmade =
    of fetched settled (subst (λ p. fetches old new p MAX_REPLY (outcome_of fetched)) same got) made unmade
  where
    found : (page : PageData) → admits place (Found number page) → MayAdd admits seen (Found number page)
    found page = may_add admits seen number place (Found number page) (λ m is. found_number m number page is) at'

    failed : (why : Why) → admits place (Failed number why) → MayAdd admits seen (Failed number why)
    failed why = may_add admits seen number place (Failed number why) (λ m is. failed_number m number why is) at'

    of : (fetched : Result (Vec ℕ) Why) (settled : Result PageData Why) → fetches old new place MAX_REPLY (outcome_of fetched)
        → IfOk fetched (λ bytes. Settles scope place bytes.items settled) → IfErr fetched (λ why. settled ≡ Err why)
        → MayHandIn admits number settled seen
    of (Ok bytes) (Ok page) got made unmade = (
      found page (rule opening old new number place (Fetched bytes.items) (Found number page) opens got (refl, (bytes.items, refl, made ∙ ap (λ s. page_of s place bytes.items) of_opening))),
      failed NoMemory (rule opening old new number place (Fetched bytes.items) (Failed number NoMemory) opens got (refl, inr refl)),
    )
    of (Ok bytes) (Err why) got made unmade = failed why (rule opening old new number place (Fetched bytes.items) (Failed number why) opens got (refl, inr made))
    of (Err fault) (Ok page) got made unmade = absurd (cc (unmade))
    of (Err fault) (Err why) got made unmade = failed why (rule opening old new number place (Unfetched fault) (Failed number why) opens got (refl, inl (cc (unmade))))

-- ---- an opening

-- a record of its opening alone
pub opened_admitted : (admits : EventRule) (opening : OpeningData) → AllAdmitted admits (Opened opening ∷ [])
opened_admitted admits opening = record { each = of }
  where
    of : (k : ℕ) (event : EventData) → slice_get (Opened opening ∷ []) k ≡ Some event → IsAdmitted admits (take k (Opened opening ∷ [])) event
    of zero event at' number place is there =
        let same : Opened opening ≡ event = cc (at') in
        let no : is_outcome_of number (Opened opening) ≡ true = subst (λ (e : EventData). is_outcome_of number e ≡ true) (sym same) is in
        absurd (false≢true no)
    of (suc k) event at' number place is there = absurd (cc (at'))
