-- The sizes of a legal record and of its states.
use Rattle.std.proofs.Common.{◌≡◌, mul-le-mul_right, ℕ, Bool, ◌+◌, ◌*◌, ◌≤◌, ◌<◌, true, cond, List, [], ◌∷◌, ◌++◌, length, filter, inl, inr, refl, sym, ◌∙◌, ap, arith, eqb, ltb}
use Rattle.std.specs.List.{range_with_len, count_by, sum_by, flat_map}
use Rattle.std.proofs.lemmas.Bool.{cases_Bool, cases_eq, lt-ltb}
use Rattle.std.proofs.lemmas.List.{append-nil, length-append, length_push}
use Rattle.std.proofs.lemmas.List.Concat.{flat_map-append}
use Rattle.std.proofs.lemmas.List.FromFn.{length-range_with_len}
use Rattle.std.proofs.lemmas.List.Sums.{sum_by-cons, sum_by-le, length-filter}
use Rattle.gopher_catalogue.specs.Event.{OpeningData, EventData, Opened, Claimed, Found, Failed}
use Rattle.gopher_catalogue.specs.Frontier.{known, claims, finds, failures, waiting, is_claim_of, is_find_of, is_failure_of, is_out, is_done, out, done}
use Rattle.gopher_catalogue.specs.Legal.{MayFollow, FollowEachOther, IsLegal, times_listed}
use Rattle.gopher_catalogue.proofs.Legal.{legal_ind, legal_record}
use Rattle.gopher_catalogue.proofs.Steps.{is_out_is, is_out_from_claims, not_out_from_claims, is_done_is, length-known}
use Rattle.gopher_catalogue.proofs.Counting.{times, times-nil, times-cons, times-append, times-filter, times-range, sum-range_ones, sum-range_add, sum-times}
use Rattle.gopher_catalogue.proofs.States.{state, tests_in, unknown_at, bounds}

-- ---- the numbers that were claimed, found and failed, in order

abbrev pub claimed_by : EventData → List ℕ
claimed_by (Claimed number) = number ∷ []
claimed_by event = []

abbrev pub found_by : EventData → List ℕ
found_by (Found number page) = number ∷ []
found_by event = []

abbrev pub failed_by : EventData → List ℕ
failed_by (Failed number why) = number ∷ []
failed_by event = []

pub length_by_push : (by : EventData → List ℕ) (events : List EventData) (e : EventData) → length (flat_map by (events ++ e ∷ [])) ≡ length (flat_map by events) + length (by e)
length_by_push by events e =
    ap length (flat_map-append by events (e ∷ []) ∙ ap (λ ns. flat_map by events ++ ns) (append-nil (by e))) ∙ length-append (flat_map by events) (by e)

times-one : (n m : ℕ) → times n (m ∷ []) ≡ cond (eqb n m) 1 0
times-one n m = omega (arith, times-cons n m [], times-nil n)

times-by : (by : EventData → List ℕ) (test : ℕ → EventData → Bool) → ((n : ℕ) (e : EventData) → times n (by e) ≡ cond (test n e) 1 0) → (n : ℕ) (events : List EventData) → times n (flat_map by events) ≡ count_by (test n) events
times-by by test each n [] = times-nil n
times-by by test each n (e ∷ events) =
    times-append n (by e) (flat_map by events) ∙ omega (arith, each n e, times-by by test each n events, sum_by-cons (λ x. cond (test n x) 1 0) e events)

claims_are : (events : List EventData) (n : ℕ) → claims events n ≡ times n (flat_map claimed_by events)
unfolding claims
claims_are events n = sym (times-by claimed_by is_claim_of each n events) where
  each : (n : ℕ) (e : EventData) → times n (claimed_by e) ≡ cond (is_claim_of n e) 1 0
  each n (Opened opening) = times-nil n
  each n (Claimed m) = times-one n m
  each n (Found m page) = times-nil n
  each n (Failed m why) = times-nil n

finds_are : (events : List EventData) (n : ℕ) → finds events n ≡ times n (flat_map found_by events)
unfolding finds
finds_are events n = sym (times-by found_by is_find_of each n events) where
  each : (n : ℕ) (e : EventData) → times n (found_by e) ≡ cond (is_find_of n e) 1 0
  each n (Opened opening) = times-nil n
  each n (Claimed m) = times-nil n
  each n (Found m page) = times-one n m
  each n (Failed m why) = times-nil n

failures_are : (events : List EventData) (n : ℕ) → failures events n ≡ times n (flat_map failed_by events)
unfolding failures
failures_are events n = sym (times-by failed_by is_failure_of each n events) where
  each : (n : ℕ) (e : EventData) → times n (failed_by e) ≡ cond (is_failure_of n e) 1 0
  each n (Opened opening) = times-nil n
  each n (Claimed m) = times-nil n
  each n (Found m page) = times-nil n
  each n (Failed m why) = times-one n m

-- ---- the lists of states

pub out_is : (opening : OpeningData) (events : List EventData) → out opening events ≡ filter (is_out events) (range_with_len 0 (length (known opening events)))
unfolding out
out_is opening events = refl

pub done_is : (opening : OpeningData) (events : List EventData) → done opening events ≡ filter (is_done opening events) (range_with_len 0 (length (known opening events)))
unfolding done
done_is opening events = refl

module _ (opening : OpeningData) (events : List EventData) (legal : IsLegal (Opened opening ∷ events)) where
  abbrev count : ℕ
  count = length (known opening events)

  abbrev places : List ℕ
  places = range_with_len 0 count

  -- each known number has one state, once
  tests : (n : ℕ) → let T : ℕ = cond (ltb n count) 1 0 in times n (waiting opening events) + cond (is_out events n) T 0 + cond (is_done opening events n) T 0 ≡ T
  tests n = rw (is_out_is events n, is_done_is events n opening) (tests_in legal.0.some_try (state opening events legal n))

  listed : (p : ℕ → Bool) (n : ℕ) → times n (filter p places) ≡ cond (p n) (cond (ltb n count) 1 0) 0
  listed p n = times-filter p n places ∙ ap (λ t. cond (p n) t 0) (times-range n count)

  each_state : (n : ℕ) → times n (waiting opening events) + times n (out opening events) + times n (done opening events) ≡ cond (ltb n count) 1 0
  each_state n = rw (out_is opening events, done_is opening events, listed (is_out events) n, listed (is_done opening events) n) (tests n)

  pub one_state : (n : ℕ) → times_listed (waiting opening events) n + times_listed (out opening events) n + times_listed (done opening events) n ≡ cond (ltb n count) 1 0
  unfolding times
  one_state n = each_state n

  -- where nothing waits and nothing is out, each known number is done
  pub done_if_ended : waiting opening events ≡ [] → out opening events ≡ [] → (n : ℕ) → n < count → is_done opening events n ≡ true
  done_if_ended none_waiting none_out n within =
      let below : ltb n count ≡ true = lt-ltb n count within in
      let all = rw below at (tests n) in
      let outside = rw below at (listed (is_out events) n) in
      let waits : times n (waiting opening events) ≡ 0 = ap (times n) none_waiting ∙ times-nil n in
      let not_out : times n (filter (is_out events) places) ≡ 0 = ap (times n) (sym (out_is opening events) ∙ none_out) ∙ times-nil n in
      elim (cases_Bool (is_done opening events n)) as (λ q. is_done opening events n ≡ true) [
        | inl done' ↦ done'
        | inr not_done ↦ let rest = rw not_done at all in absurd (omega arith)
      ]

  -- ---- sizes

  waiting_size : sum_by (λ n. times n (waiting opening events)) places ≡ length (waiting opening events)
  waiting_size = sum-times (λ n. times n (waiting opening events)) count (waiting opening events) (λ n. refl) (λ n beyond. (unknown_at opening events legal n beyond).0)

  out_size : length (out opening events) ≡ sum_by (λ n. cond (is_out events n) 1 0) places
  out_size = ap length (out_is opening events) ∙ length-filter (is_out events) places

  done_size : length (done opening events) ≡ sum_by (λ n. cond (is_done opening events n) 1 0) places
  done_size = ap length (done_is opening events) ∙ length-filter (is_done opening events) places

  claimed_size : sum_by (claims events) places ≡ length (flat_map claimed_by events)
  claimed_size = sum-times (claims events) count (flat_map claimed_by events) (claims_are events) (λ n beyond. (unknown_at opening events legal n beyond).1)

  found_size : sum_by (finds events) places ≡ length (flat_map found_by events)
  found_size = sum-times (finds events) count (flat_map found_by events) (finds_are events) (λ n beyond. (unknown_at opening events legal n beyond).2)

  failed_size : sum_by (failures events) places ≡ length (flat_map failed_by events)
  failed_size = sum-times (failures events) count (flat_map failed_by events) (failures_are events) (λ n beyond. (unknown_at opening events legal n beyond).3)

  pub state_sizes : count ≡ length (waiting opening events) + length (out opening events) + length (done opening events)
  state_sizes =
      let w : ℕ → ℕ = λ n. times n (waiting opening events) in
      let o : ℕ → ℕ = λ n. cond (is_out events n) 1 0 in
      let d : ℕ → ℕ = λ n. cond (is_done opening events n) 1 0 in
      let one : (n : ℕ) → 0 ≤ n → n < 0 + count → w n + o n + d n ≡ 1 = λ n l u. let below : ltb n count ≡ true = lt-ltb n count (omega arith) in rw below at (tests n) in
      let two = sum-range_add w o (λ n. w n + o n) 0 count (λ n l u. refl) in
      let three = sum-range_add (λ n. w n + o n) d (λ n. w n + o n + d n) 0 count (λ n l u. refl) in
      omega (arith, waiting_size, out_size, done_size, two, three, sum-range_ones (λ n. w n + o n + d n) 0 count one)

  -- each claim has its outcome, unless its place is out
  pub out_counted : length (out opening events) + (length (flat_map found_by events) + length (flat_map failed_by events)) ≡ length (flat_map claimed_by events)
  out_counted =
      let o : ℕ → ℕ = λ n. cond (is_out events n) 1 0 in
      let ended : ℕ → ℕ = λ n. finds events n + failures events n in
      let each : (n : ℕ) → 0 ≤ n → n < 0 + count → o n + ended n ≡ claims events n =
      λ n l u.
      let all = bounds opening events legal n in
      elim (cases_eq (claims events n) (finds events n + failures events n + 1)) as (λ q. o n + ended n ≡ claims events n) [
        | inl e ↦ rw (is_out_from_claims events n e) (omega arith)
        | inr ne ↦ rw (not_out_from_claims events n ne) (omega (arith, all.0, all.1))
      ] in
      omega (arith, out_size, claimed_size, found_size, failed_size, sum-range_add o ended (claims events) 0 count each, sum-range_add (finds events) (failures events) ended 0 count (λ n l u. refl))

  -- no number was claimed more often than its tries, and none was found twice
  pub claimed_most : length (flat_map claimed_by events) ≤ count * opening.tries
  claimed_most = omega (arith, claimed_size, rw (length-range_with_len 0 count) at (sum_by-le (claims events) opening.tries places (λ k d within. (bounds opening events legal _).3)))

  pub found_most : length (flat_map found_by events) ≤ count
  found_most = omega (arith, found_size, rw (length-range_with_len 0 count) at (sum_by-le (finds events) 1 places (λ k d within. (bounds opening events legal _).2)))

  -- each event after the opening is a claim, a find or a failure
  events_counted : length events ≡ length (flat_map claimed_by events) + length (flat_map found_by events) + length (flat_map failed_by events)
  events_counted = legal_ind (λ es. length es ≡ length (flat_map claimed_by es) + length (flat_map found_by es) + length (flat_map failed_by es)) opening refl step events legal.1 where
    step : (es : List EventData) (e : EventData) → FollowEachOther opening es → MayFollow opening es e → length es ≡ length (flat_map claimed_by es) + length (flat_map found_by es) + length (flat_map failed_by es)
        → length (es ++ e ∷ []) ≡ length (flat_map claimed_by (es ++ e ∷ [])) + length (flat_map found_by (es ++ e ∷ [])) + length (flat_map failed_by (es ++ e ∷ []))
    step es (Opened other) follows may ih = absurd may
    step es (Claimed n) follows may ih = omega (arith, length_push es (Claimed n), length_by_push claimed_by es (Claimed n), length_by_push found_by es (Claimed n), length_by_push failed_by es (Claimed n))
    step es (Found n page) follows may ih = omega (arith, length_push es (Found n page), length_by_push claimed_by es (Found n page), length_by_push found_by es (Found n page), length_by_push failed_by es (Found n page))
    step es (Failed n why) follows may ih = omega (arith, length_push es (Failed n why), length_by_push claimed_by es (Failed n why), length_by_push found_by es (Failed n why), length_by_push failed_by es (Failed n why))

  pub few_events : length events ≤ 655360
  few_events =
      let few = length-known opening events in
      let most : count * opening.tries ≤ 65536 * opening.tries = mul-le-mul_right opening.tries (omega (arith, legal.0.few_places)) in
      omega (arith, events_counted, out_counted, claimed_most, legal.0.few_tries)

-- the number of places that are out after one more event
pub out_push : (opening : OpeningData) (events : List EventData) (e : EventData) → IsLegal (Opened opening ∷ events) → IsLegal (Opened opening ∷ (events ++ e ∷ []))
    → length (out opening (events ++ e ∷ [])) + length (found_by e) + length (failed_by e) ≡ length (out opening events) + length (claimed_by e)
out_push opening events e legal legal' =
    omega (arith, out_counted opening events legal, out_counted opening (events ++ e ∷ []) legal', length_by_push claimed_by events e, length_by_push found_by events e, length_by_push failed_by events e)

pub length-record_fits : (record_ : List EventData) → IsLegal record_ → length record_ ≤ 655361
length-record_fits = legal_record (λ r. length r ≤ 655361) (λ opening events legal. omega (arith, few_events opening events legal))
