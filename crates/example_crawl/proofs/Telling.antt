-- What the desk of a host records, and what a finished crawl of it finds.
use Rattle.std.proofs.Common.{◌≡◌, ℕ, zero, suc, ◌<◌, ◌≤◌, ◌⊎◌, inl, inr, Bool, true, false, ◌||◌, ◌==◌, List, [], ◌∷◌, ◌++◌, length, map, slice_get, Option, None, Some, refl, sym, ap, subst, ◌∙◌, arith, true≢false}
use Rattle.std.proofs.lemmas.Bool.{le-leb, lt-leb, eqb-true, and_parts}
use Rattle.std.specs.Prelude.{nat_le, IsTrue}
use Rattle.std.specs.List.{list_any}
use mathlib.Core.List.{IsPrefix}
use Rattle.gopher_item.specs.Place.{PlaceData}
use Rattle.gopher_item.specs.Scope.{ScopeData}
use Rattle.gopher_page.specs.Query.{TermData}
use Rattle.gopher_index.specs.declared.hit.Hit.{Hit}
use Rattle.gopher_catalogue.specs.declared.event.Event.{Event}
use Rattle.gopher_catalogue.specs.declared.event.EventData.{EventData}
use Rattle.gopher_catalogue.specs.declared.event.EventData.TheVariants.{Opened, Claimed, Found, Failed}
use Rattle.gopher_catalogue.specs.declared.event.Why.{Why}
use Rattle.gopher_catalogue.specs.declared.event.Why.TheVariants.{Connect, Read, Write, TooLong, NoMemory}
use Rattle.gopher_catalogue.specs.Closure.{OutcomeData, OutcomeTable, Fetched, Unfetched, FinalAnswer, IsComplete, IsFinalOnceComplete, IsTold}
use Rattle.gopher_catalogue.specs.EventOf.{event_data}
use Rattle.gopher_catalogue.specs.Frontier.{waiting, out}
use Rattle.gopher_catalogue.specs.Legal.{IsLegal}
use Rattle.gopher_catalogue.specs.Opening.{OpeningData, opening_of}
use Rattle.gopher_catalogue.specs.Step.{is_finished, opened_record, status_of}
use Rattle.gopher_catalogue.proofs.FinalAnswers.{final_one}
use Rattle.gopher_catalogue.proofs.PageLists.{answers_same}
use Rattle.gopher_crew.specs.Admitted.{AllAdmitted}
use Rattle.gopher_crew.specs.Kept.{IsOpeningOf}
use Rattle.gopher_crew.specs.Rounds.{AdmitsFetched, IsEventOf}
use Rattle.gopher_crew.proofs.Admitting.{opened_admitted}
use Rattle.gopher_crew.proofs.Agreeing.{agree}
use Rattle.example_crawl.specs.Table.{AreFinal, HasScope, IsOutcomeOf, MatchesTable, burrow_reply, is_lack, outcome_told, table_of}

-- ---- outcomes

fits : (reply : List ℕ) → length reply ≤ 1048576 → outcome_told (Some reply) ≡ Fetched reply
fits reply few = let e : nat_le (length reply) 1048576 ≡ true = le-leb (length reply) 1048576 few in rw e refl

over : (reply : List ℕ) → 1048576 < length reply → outcome_told (Some reply) ≡ Unfetched TooLong
over reply long = let e : nat_le (length reply) 1048576 ≡ false = lt-leb (length reply) 1048576 long in rw e refl

-- an outcome of a fetch is that of the table, unless memory ran out
told_is : (reply : Option (List ℕ)) (outcome : OutcomeData) → IsOutcomeOf reply 1048576 outcome → (outcome ≡ outcome_told reply) ⊎ (outcome ≡ Unfetched NoMemory)
told_is (Some reply) (Fetched bytes) is = inl (ap Fetched is.0 ∙ sym (fits reply is.1))
told_is (Some reply) (Unfetched TooLong) is = inl (sym (over reply is))
told_is (Some reply) (Unfetched NoMemory) is = inr refl
told_is (Some reply) (Unfetched Connect) is = absurd is
told_is (Some reply) (Unfetched Read) is = absurd is
told_is (Some reply) (Unfetched Write) is = absurd is
told_is None (Fetched bytes) is = absurd is
told_is None (Unfetched why) is = inl (ap Unfetched is)

lack : (number : ℕ) (why : Why) → why ≡ NoMemory → IsTrue (is_lack (Failed number why))
lack number why is = rw is refl

-- an event that records such an outcome is told
fetched_told : (scope : ScopeData) (replies : List (List ℕ × List ℕ)) (number : ℕ) (place : PlaceData) (outcome : OutcomeData) (event : EventData)
    → (outcome ≡ outcome_told (burrow_reply replies place.selector)) ⊎ (outcome ≡ Unfetched NoMemory)
    → IsEventOf scope number place outcome event → MatchesTable scope replies place event
fetched_told scope replies number place outcome (Opened opening) told is = absurd is
fetched_told scope replies number place outcome (Claimed n) told is = absurd is
fetched_told scope replies number place outcome (Found n page) (inl told) is = inr (is.1.0, ap Some (sym told ∙ is.1.1), is.1.2)
fetched_told scope replies number place outcome (Found n page) (inr told) is = let got = is.1.1 in absurd (cc (told, got))
fetched_told scope replies number place outcome (Failed n why) told (is, inr none) = inl (lack n why none)
fetched_told scope replies number place outcome (Failed n why) (inl told) (is, inl got) = inr (ap Some (sym told ∙ got))
fetched_told scope replies number place outcome (Failed n why) (inr told) (is, inl got) = inl (lack n why (cc (told, got)))

-- the rule admits what fetchers of the host fetch
pub admits_fetched : {F : Type 0} (opened : List EventData) (scope : ScopeData) (replies : List (List ℕ × List ℕ)) → HasScope opened scope
    → AdmitsFetched {F = F} (MatchesTable scope replies) (λ old new place limit outcome. IsOutcomeOf (burrow_reply replies place.selector) limit outcome) opened
admits_fetched opened scope replies has opening old new number place outcome event opens got is =
    fetched_told scope replies number place outcome event (told_is (burrow_reply replies place.selector) outcome got)
    (subst (λ (s : ScopeData). IsEventOf s number place outcome event) (has opening opens) is)

-- ---- the opening

pub opening_admitted : (scope scope' : ScopeData) (seeds : List PlaceData) (replies : List (List ℕ × List ℕ)) (record_ : List EventData)
    → record_ ≡ opened_record scope seeds 100 1 → AllAdmitted (MatchesTable scope' replies) record_
opening_admitted scope scope' seeds replies record_ is =
    subst (λ (r : List EventData). AllAdmitted (MatchesTable scope' replies) r) (sym is) (opened_admitted (MatchesTable scope' replies) (opening_of scope seeds 100 1))

pub opening_scope : (scope scope' : ScopeData) (seeds : List PlaceData) (record_ : List EventData)
    → record_ ≡ opened_record scope seeds 100 1 → scope ≡ scope' → HasScope record_ scope'
opening_scope scope scope' seeds record_ is same opening opens =
    let first : slice_get (opened_record scope seeds 100 1) 0 ≡ Some (Opened opening) = ap (λ r. slice_get r 0) (sym is) ∙ opens in
    let whole : opening_of scope seeds 100 1 ≡ opening = cc (first) in
    ap (λ (o : OpeningData). o.scope) (sym whole) ∙ same

-- ---- a finished crawl

none : (xs : List ℕ) → (length xs == 0) ≡ true → xs ≡ []
none xs is = empty xs (eqb-true (length xs) 0 is)
  where
    empty : (list : List ℕ) → length list ≡ 0 → list ≡ []
    empty [] e = refl
    empty (x ∷ list) e = absurd (omega arith)

or_left : (a b : Bool) → (a || b) ≡ false → a ≡ false
or_left true b is = absurd (true≢false is)
or_left false b is = refl

or_right : (a b : Bool) → (a || b) ≡ false → b ≡ false
or_right true b is = absurd (true≢false is)
or_right false b is = is

no_lack : (events : List EventData) (k : ℕ) (event : EventData) → list_any is_lack events ≡ false → slice_get events k ≡ Some event → is_lack event ≡ false
no_lack [] k event is at' = absurd (cc (at'))
no_lack (x ∷ events) zero event is at' = let same : x ≡ event = cc (at') in subst (λ e. is_lack e ≡ false) same (or_left (is_lack x) (list_any is_lack events) is)
no_lack (x ∷ events) (suc k) event is at' = no_lack events k event (or_right (is_lack x) (list_any is_lack events) is) at'

pub lacks_of : (events : List Event) → list_any (λ event. is_lack (event_data event)) events ≡ list_any is_lack (map event_data events)
lacks_of [] = refl
lacks_of (event ∷ events) = ap (λ rest. is_lack (event_data event) || rest) (lacks_of events)

complete : (opening : OpeningData) (events : List EventData) (replies : List (List ℕ × List ℕ)) → IsLegal (Opened opening ∷ events)
    → is_finished (Opened opening ∷ events) ≡ true → (status_of (Opened opening ∷ events)).dropped ≡ 0 → list_any is_lack (Opened opening ∷ events) ≡ false
    → AllAdmitted (MatchesTable opening.scope replies) (Opened opening ∷ events) → IsComplete opening events (table_of replies)
unfolding status_of
complete opening events replies legal finished none_dropped enough all =
    let both = and_parts (length (waiting opening events) == 0) (length (out opening events) == 0) finished in
    record {
      legal = legal;
      none_waits = none (waiting opening events) both.0;
      none_out = none (out opening events) both.1;
      none_dropped = none_dropped;
      agrees = agree opening events (table_of replies) legal (record { each = λ k event at' number place is there. told k event at' place (all.each k event at' number place is there) });
    }
  where
    told : (k : ℕ) (event : EventData) → slice_get (Opened opening ∷ events) k ≡ Some event → (place : PlaceData) → MatchesTable opening.scope replies place event
        → IsTold opening.scope place (table_of replies place) (Some event)
    told k event at' place (inl lacks) = absurd (true≢false (sym lacks ∙ no_lack (Opened opening ∷ events) k event enough at'))
    told k event at' place (inr is) = is

pub final : (record_ : List EventData) (query : List TermData) (hits : List Hit) → IsLegal record_ → is_finished record_ ≡ true → (status_of record_).dropped ≡ 0
    → list_any is_lack record_ ≡ false → IsFinalOnceComplete record_ query hits → AreFinal record_ query hits
final [] query hits legal finished none_dropped enough once opening replies opens all = absurd legal
final (Claimed n ∷ events) query hits legal finished none_dropped enough once opening replies opens all = absurd legal
final (Found n page ∷ events) query hits legal finished none_dropped enough once opening replies opens all = absurd legal
final (Failed n why ∷ events) query hits legal finished none_dropped enough once opening replies opens all = absurd legal
final (Opened first ∷ events) query hits legal finished none_dropped enough once opening replies opens all =
    let same : first ≡ opening = cc (opens) in
    subst (λ (o : OpeningData). AllAdmitted (MatchesTable o.scope replies) (Opened first ∷ events) → FinalAnswer o.scope o.seeds (table_of replies) query hits) same
    (λ all. once first events (table_of replies) refl (complete first events replies legal finished none_dropped enough all)) all

-- the hits of a crawl that was opened so are the final ones
pub opened_final : (scope scope' : ScopeData) (replies replies' : List (List ℕ × List ℕ)) (seeds : List PlaceData) (opened record_ : List EventData) (query : List TermData) (hits : List Hit)
    → scope ≡ scope' → replies ≡ replies' → opened ≡ opened_record scope seeds 100 1 → IsPrefix opened record_ → AllAdmitted (MatchesTable scope' replies') record_
    → AreFinal record_ query hits → FinalAnswer scope seeds (table_of replies) query hits
opened_final scope scope' replies replies' seeds opened record_ query hits same same' is begins all finals =
    let begun : opened_record scope seeds 100 1 ++ begins.0 ≡ record_ = ap (λ (r : List EventData). r ++ begins.0) (sym is) ∙ begins.1 in
    let opens : IsOpeningOf record_ (opening_of scope seeds 100 1) = ap (λ (r : List EventData). slice_get r 0) (sym begun) in
    finals (opening_of scope seeds 100 1) replies opens (rw (same, same') all)

-- the final hits of crawls that begin alike are equal
pub alike : (scope scope' : ScopeData) (seeds seeds' : List PlaceData) (table : OutcomeTable) (query : List TermData) (hits hits' : List Hit)
    → FinalAnswer scope seeds table query hits → FinalAnswer scope' seeds' table query hits' → scope ≡ scope' → seeds ≡ seeds' → hits ≡ hits'
alike scope scope' seeds seeds' table query hits hits' one other same same' =
    final_one (answers_same query) scope seeds table hits hits' one
    (subst (λ (s : ScopeData). FinalAnswer s seeds table query hits') (sym same)
    (subst (λ (list : List PlaceData). FinalAnswer scope' list table query hits') (sym same') other))
