-- A worker's rounds.
use Rattle.std.proofs.Common.{◌≡◌, ℕ, ◌+◌, ◌*◌, ◌≤◌, ◌⊎◌, Bool, true, false, List, [], ◌∷◌, Result, Ok, Err, inl, inr, refl, ap, sym, subst, ◌∙◌, arith}
use Rattle.std.proofs.Math.Dec.{leb}
use Rattle.std.proofs.lemmas.Bool.{leb-true, leb-false}
use Rattle.std.proofs.lemmas.List.Sums.{sum_by-cons}
use Rattle.std.specs.Prelude.{IfOk, IfErr}
use Rattle.std.specs.List.{AllZip, sum_by}
use Rattle.std.specs.Global.{Vec}
use mathlib.Core.List.{IsPrefix}
use Rattle.gopher_item.specs.Place.{PlaceData}
use Rattle.gopher_item.specs.Scope.{ScopeData}
use Rattle.gopher_text.specs.declared.reply_reader.TheConstants.{MAX_REPLY}
use Rattle.gopher_page.specs.Page.{PageData, page_of}
use Rattle.gopher_catalogue.specs.Closure.{OutcomeData, Fetched, Unfetched}
use Rattle.gopher_catalogue.specs.declared.event.EventData.{EventData}
use Rattle.gopher_catalogue.specs.declared.event.EventData.TheVariants.{Opened, Claimed, Found, Failed}
use Rattle.gopher_catalogue.specs.declared.event.Why.{Why}
use Rattle.gopher_catalogue.specs.declared.event.Why.TheVariants.{NoMemory}
use Rattle.gopher_catalogue.specs.declared.frontier.sizes.Added.{Added}
use Rattle.gopher_catalogue.specs.Opening.{OpeningData}
use Rattle.gopher_catalogue.specs.Step.{Take}
use Rattle.gopher_item.specs.Leads.{Leads, stays, goes}
use Rattle.gopher_crew.specs.Share.{ShareData, Rises}
use Rattle.gopher_crew.specs.Kept.{Later, Claims, Finds, Fails, RefusesFailure, IsOpeningOf}
use Rattle.gopher_crew.specs.Rounds.{WorkerData, begun, outcome_of, one_more_call, found_after, failed_after, Adds, AddsNothing, HandsIn, RecordsOutcome, FindsNotOut, OnlySees, Reports, Round, WorksRounds, CountsRounds, RoundsAreCounted}
use Rattle.gopher_crew.specs.Work.{found_with, failed_with, worker_data, IsStop, WorksOn, Settles}
use Rattle.gopher_crew.specs.declared.working.WorkEnd.{WorkEnd}
use Rattle.gopher_crew.specs.declared.working.Outcome.{Outcome}
use Rattle.gopher_crew.specs.declared.working.Outcome.TheVariants as outcome
use Rattle.gopher_crew.proofs.Prefixes.{prefix_self, prefix_trans}

-- ---- shares

pub rises_on : (m n : ℕ) (a b c : ShareData) → Rises m a b → Rises n b c → Rises (m + n) a c
rises_on m n a b c first next =
    record {
      number = next.number ∙ first.number;
      events = omega (arith, first.events, next.events);
      parts = next.parts ∙ first.parts;
      seen = prefix_trans _ _ _ first.seen next.seen;
      makers = prefix_trans _ _ _ first.makers next.makers;
    }

pub adds_found : (number : ℕ) (page : PageData) (added : Added) (old new : ShareData)
    → Later old.seen (Finds number page added new) → Rises 1 old new → Adds (Found number page) old new
adds_found number page added old new later rises =
    record { before = later.before; begins = later.begins; is_after = later.holds.is_after; is_legal = later.holds.is_legal; counts = rises }

pub adds_failed : (number : ℕ) (why : Why) (old new : ShareData)
    → Later old.seen (Fails number why new) → Rises 1 old new → Adds (Failed number why) old new
adds_failed number why old new later rises =
    record { before = later.before; begins = later.begins; is_after = later.holds.is_after; is_legal = later.holds.is_legal; counts = rises }

-- a failure after a page that was refused
pub adds_failed_after : (number : ℕ) (why : Why) (old middle new : ShareData)
    → Rises 0 old middle → Later middle.seen (Fails number why new) → Rises 1 middle new → Adds (Failed number why) old new
adds_failed_after number why old middle new same later rises =
    record {
      before = later.before;
      begins = prefix_trans _ _ _ same.seen later.begins;
      is_after = later.holds.is_after;
      is_legal = later.holds.is_legal;
      counts = rises_on 0 1 old middle new same rises;
    }

pub not_out : (number : ℕ) (old new : ShareData) → RefusesFailure number new → Rises 0 old new → AddsNothing number old new
not_out number old new refuses rises = record { refuses = refuses; counts = rises }

pub not_out_after : (number : ℕ) (old middle new : ShareData)
    → Rises 0 old middle → RefusesFailure number new → Rises 0 middle new → AddsNothing number old new
not_out_after number old middle new same refuses rises = record { refuses = refuses; counts = rises_on 0 0 old middle new same rises }

-- ---- one round

module _ {F : Type 0} (fetches : F → F → PlaceData → ℕ → OutcomeData → Type 0) (called : F → ℕ) (opened : List EventData) where
  -- what was handed in, and counted, records what was fetched
  pub reports_of : (number : ℕ) (place place' : PlaceData) (opening : OpeningData) (scope : ScopeData)
      (old new : WorkerData F) (share : ShareData) (fetched : Result (Vec ℕ) Why) (settled : Result PageData Why) (result : Outcome)
      → place' ≡ place → IsOpeningOf opened opening → scope ≡ opening.scope
      → fetches old.fetcher new.fetcher place' MAX_REPLY (outcome_of fetched)
      → called new.fetcher ≡ one_more_call (called old.fetcher)
      → IfOk fetched (λ bytes. Settles scope place bytes.items settled)
      → IfErr fetched (λ why. settled ≡ Err why)
      → HandsIn result number settled old.share share → new.share ≡ share
      → new.found ≡ found_with result old.found → new.failed ≡ failed_with result old.failed
      → Reports fetches called opened number place old new
  reports_of number place place' opening scope old new share fetched settled result same opens of_opening got once made unmade hands shared found failed =
      of fetched settled result (subst (λ p. fetches old.fetcher new.fetcher p MAX_REPLY (outcome_of fetched)) same got) made unmade
      (subst (λ s. HandsIn result number settled old.share s) (sym shared) hands) found failed
    where
      of : (fetched : Result (Vec ℕ) Why) (settled : Result PageData Why) (result : Outcome)
          → fetches old.fetcher new.fetcher place MAX_REPLY (outcome_of fetched)
          → IfOk fetched (λ bytes. Settles scope place bytes.items settled)
          → IfErr fetched (λ why. settled ≡ Err why)
          → HandsIn result number settled old.share new.share
          → new.found ≡ found_with result old.found → new.failed ≡ failed_with result old.failed
          → Reports fetches called opened number place old new
      of (Ok bytes) (Ok page) outcome.Found got made unmade hands found failed =
          record { opening = opening; opens = opens; outcome = Fetched bytes.items; fetched = got; once = once; recorded = inl (record { event = Found number page; is_event = (refl, (bytes.items, refl, made ∙ ap (λ s. page_of s place bytes.items) of_opening)); adds = hands; found = found; failed = failed }) }
      of (Ok bytes) (Ok page) (outcome.Failed why) got made unmade hands found failed =
          record { opening = opening; opens = opens; outcome = Fetched bytes.items; fetched = got; once = once; recorded = inl (record { event = Failed number why; is_event = (refl, inr hands.0); adds = hands.1; found = found; failed = failed }) }
      of (Ok bytes) (Ok page) outcome.Refused got made unmade hands found failed =
          record { opening = opening; opens = opens; outcome = Fetched bytes.items; fetched = got; once = once; recorded = inr (record { nothing = hands; found = found; failed = failed }) }
      of (Ok bytes) (Err why) outcome.Found got made unmade hands found failed = absurd hands
      of (Ok bytes) (Err why) (outcome.Failed told) got made unmade hands found failed =
          record { opening = opening; opens = opens; outcome = Fetched bytes.items; fetched = got; once = once; recorded = inl (record { event = Failed number told; is_event = (refl, inr (hands.0 ∙ made)); adds = hands.1; found = found; failed = failed }) }
      of (Ok bytes) (Err why) outcome.Refused got made unmade hands found failed =
          record { opening = opening; opens = opens; outcome = Fetched bytes.items; fetched = got; once = once; recorded = inr (record { nothing = hands; found = found; failed = failed }) }
      of (Err fault) (Ok page) result got made unmade hands found failed = absurd (cc unmade)
      of (Err fault) (Err why) outcome.Found got made unmade hands found failed = absurd hands
      of (Err fault) (Err why) (outcome.Failed told) got made unmade hands found failed =
          record { opening = opening; opens = opens; outcome = Unfetched fault; fetched = got; once = once; recorded = inl (record { event = Failed number told; is_event = (refl, inl (cc (unmade, hands.0))); adds = hands.1; found = found; failed = failed }) }
      of (Err fault) (Err why) outcome.Refused got made unmade hands found failed =
          record { opening = opening; opens = opens; outcome = Unfetched fault; fetched = got; once = once; recorded = inr (record { nothing = hands; found = found; failed = failed }) }

  -- a claim and its report are a round
  pub round_of : (number : ℕ) (place : PlaceData) (f : F) (old claimed : ShareData) (found failed : ℕ) (new : WorkerData F)
      → Later old.seen (Claims (Take number place) claimed) → Rises 1 old claimed
      → Reports fetches called opened number place (record { fetcher = f; share = claimed; found = found; failed = failed }) new
      → Round fetches called opened (record { fetcher = f; share = old; found = found; failed = failed }) new
  round_of number place f old claimed found failed new claims counts reported =
      record { number = number; place = place; claimed = claimed; claims = claims; counts = counts; reported = reported }

  -- ---- rounds

  -- what a share keeps
  pub record Keeps (old new : ShareData) : Type 0 where
    pub parts : new.parts ≡ old.parts
    pub seen : IsPrefix old.seen new.seen

  keeps_on : (n : ℕ) (a b c : ShareData) → Keeps a b → Rises n b c → Keeps a c
  keeps_on n a b c keeps rises = record { parts = rises.parts ∙ keeps.parts; seen = prefix_trans _ _ _ keeps.seen rises.seen }

  reports_keep : (number : ℕ) (place : PlaceData) (a : ShareData) (old new : WorkerData F)
      → Keeps a old.share → Reports fetches called opened number place old new → Keeps a new.share
  reports_keep number place a old new keeps reports = of reports.recorded
    where
      of : RecordsOutcome reports.opening.scope number place reports.outcome old new ⊎ FindsNotOut number old new → Keeps a new.share
      of (inl records) = keeps_on 1 a old.share new.share keeps records.adds.counts
      of (inr finds) = keeps_on 0 a old.share new.share keeps finds.nothing.counts

  rounds_keep : (old new : WorkerData F) → Leads (Round fetches called opened) old new → Keeps old.share new.share
  rounds_keep old new stays = record { parts = refl; seen = prefix_self _ }
  rounds_keep old new (goes {middle} more round) =
      reports_keep round.number round.place old.share _ new
      (keeps_on 1 old.share middle.share round.claimed (rounds_keep old middle more) round.counts) round.reported

  pub works_keep : (old new : WorkerData F) → WorksRounds fetches called opened old new → Keeps old.share new.share
  works_keep old new works = keeps_on 0 old.share works.last.share new.share (rounds_keep old works.last works.rounds) works.stops.share

-- ---- counts

outcomes_after : (event : EventData) (found failed : ℕ) → found_after event found + failed_after event failed ≤ found + failed + 1
outcomes_after (Opened opening) found failed = omega arith
outcomes_after (Claimed number) found failed = omega arith
outcomes_after (Found number page) found failed = omega arith
outcomes_after (Failed number why) found failed = omega arith

calls_on : (events0 events events' calls0 calls calls' : ℕ)
    → (calls ≡ 18446744073709551615) ⊎ (events + 2 * calls0 ≤ events0 + 2 * calls)
    → calls' ≡ one_more_call calls → events' ≤ events + 2
    → (calls' ≡ 18446744073709551615) ⊎ (events' + 2 * calls0 ≤ events0 + 2 * calls')
calls_on events0 events events' calls0 calls calls' (inl last) more few = inl (omega (arith, last, more))
calls_on events0 events events' calls0 calls calls' (inr paid) more few = by (leb (calls + 1) 18446744073709551615) refl
  where
    by : (b : Bool) → leb (calls + 1) 18446744073709551615 ≡ b
        → (calls' ≡ 18446744073709551615) ⊎ (events' + 2 * calls0 ≤ events0 + 2 * calls')
    by true is = inr (omega (arith, leb-true (calls + 1) 18446744073709551615 is, paid, more, few))
    by false is = inl (omega (arith, leb-false (calls + 1) 18446744073709551615 is, more))

module _ {F : Type 0} (fetches : F → F → PlaceData → ℕ → OutcomeData → Type 0) (called : F → ℕ) where
  round_counted : (opened : List EventData) (first old new : WorkerData F)
      → CountsRounds called first old → Round fetches called opened old new → CountsRounds called first new
  round_counted opened first old new counted round = of round.reported.recorded
    where
      at_most : new.share.events ≤ old.share.events + 2
          → (called new.fetcher ≡ 18446744073709551615) ⊎ (new.share.events + 2 * called first.fetcher ≤ first.share.events + 2 * called new.fetcher)
      at_most few = calls_on first.share.events old.share.events new.share.events (called first.fetcher) (called old.fetcher) (called new.fetcher) counted.at_most round.reported.once few

      of : RecordsOutcome round.reported.opening.scope round.number round.place round.reported.outcome
          (record { fetcher = old.fetcher; share = round.claimed; found = old.found; failed = old.failed }) new
          ⊎ FindsNotOut round.number (record { fetcher = old.fetcher; share = round.claimed; found = old.found; failed = old.failed }) new
          → CountsRounds called first new
      of (inl records) =
          let after = outcomes_after records.event old.found old.failed in
          record {
            at_least = omega (arith, counted.at_least, round.counts.events, records.adds.counts.events, records.found, records.failed, after);
            at_most = at_most (omega (arith, round.counts.events, records.adds.counts.events));
          }
      of (inr finds) =
          record {
            at_least = omega (arith, counted.at_least, round.counts.events, finds.nothing.counts.events, finds.found, finds.failed);
            at_most = at_most (omega (arith, round.counts.events, finds.nothing.counts.events));
          }

  leads_counted : (opened : List EventData) (old new : WorkerData F) → Leads (Round fetches called opened) old new → CountsRounds called old new
  leads_counted opened old new stays = record { at_least = omega arith; at_most = inr (omega arith) }
  leads_counted opened old new (goes {middle} more round) = round_counted opened old middle new (leads_counted opened old middle more) round

  pub rounds_counted : RoundsAreCounted fetches called
  rounds_counted opened old new works =
      let counted = leads_counted opened old works.last works.rounds in
      let stops = works.stops in
      record {
        at_least = omega (arith, counted.at_least, stops.share.events, stops.found, stops.failed);
        at_most =
            calls_stay old.share.events works.last.share.events new.share.events (called old.fetcher) (called works.last.fetcher) (called new.fetcher)
            counted.at_most (ap called stops.fetcher) stops.share.events;
      }
    where
      calls_stay : (events0 events events' calls0 calls calls' : ℕ)
          → (calls ≡ 18446744073709551615) ⊎ (events + 2 * calls0 ≤ events0 + 2 * calls)
          → calls' ≡ calls → events' ≡ events + 0
          → (calls' ≡ 18446744073709551615) ⊎ (events' + 2 * calls0 ≤ events0 + 2 * calls')
      calls_stay events0 events events' calls0 calls calls' (inl last) same still = inl (same ∙ last)
      calls_stay events0 events events' calls0 calls calls' (inr paid) same still = inr (omega (arith, paid, same, still))

-- ---- chains

-- rounds and a stop
pub works_of : {F C : Type 0} (fetches : F → F → PlaceData → ℕ → OutcomeData → Type 0) (called : F → ℕ) (opened : List EventData)
    (old end : WorkEnd F C) (last : WorkerData F) → IsStop end.stop end.share
    → Leads (Round fetches called opened) (begun (old.fetcher, old.share)) last → OnlySees last (worker_data end)
    → WorksOn fetches called opened old end
works_of fetches called opened old end last stop rounds stops =
    let works : WorksRounds fetches called opened (begun (old.fetcher, old.share)) (worker_data end) = record { last = last; rounds = rounds; stops = stops } in
    let keeps = works_keep fetches called opened _ _ works in
    record { is_stop = stop; begins = keeps.seen; same_parts = keeps.parts; rounds = works }

pub leads_stays : {A : Type 0} (step : A → A → Type 0) (a : A) → Leads step a a
leads_stays step a = stays

pub leads_on : {A : Type 0} (step : A → A → Type 0) (a b c : A) → Leads step a b → step b c → Leads step a c
leads_on step a b c more one = goes more one

-- ---- several workers

-- from workers that began with pairs to the pairs
pub all_from : {P V W : Type 0} (H : P → V → Type 0) (R : V → W → Type 0) (S : P → W → Type 0)
    → ((p : P) (v : V) (w : W) → H p v → R v w → S p w) → (pairs : List P) (before : List V) (after : List W)
    → AllZip H pairs before → AllZip R before after → AllZip S pairs after
all_from H R S one [] [] [] idle works = tt
all_from H R S one [] [] (w ∷ after) idle works = absurd works
all_from H R S one [] (v ∷ before) after idle works = absurd idle
all_from H R S one (p ∷ pairs) [] after idle works = absurd idle
all_from H R S one (p ∷ pairs) (v ∷ before) [] idle works = absurd works
all_from H R S one (p ∷ pairs) (v ∷ before) (w ∷ after) idle works =
    (one p v w idle.0 works.0, all_from H R S one pairs before after idle.1 works.1)

-- numbers that stay the same have the same sum
pub same_sums : {P W : Type 0} (S : P → W → Type 0) (f : P → ℕ) (h : W → ℕ) → ((p : P) (w : W) → S p w → h w ≡ f p)
    → (pairs : List P) (after : List W) → AllZip S pairs after → sum_by h after ≡ sum_by f pairs
same_sums S f h one [] [] works = refl
same_sums S f h one [] (w ∷ after) works = absurd works
same_sums S f h one (p ∷ pairs) [] works = absurd works
same_sums S f h one (p ∷ pairs) (w ∷ after) works =
    sum_by-cons h w after
    ∙ (λ i. one p w works.0 i + same_sums S f h one pairs after works.1 i)
    ∙ sym (sum_by-cons f p pairs)
