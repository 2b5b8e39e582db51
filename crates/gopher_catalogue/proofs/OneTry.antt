-- A crawl with one try: each known place enters the queue once, and the states are simple.
use Rattle.std.proofs.Common.{◌≡◌, ℕ, suc, zero, ◌+◌, ◌-◌, ◌*◌, ◌≤◌, ◌<◌, Bool, true, false, ◌&&◌, ◌||◌, List, [], ◌∷◌, ◌++◌, length, drop, filter, inl, inr, refl, sym, ◌∙◌, ap, arith, eqb, ltb, leb}
use Rattle.std.specs.List.{range_with_len, flat_map}
use Rattle.std.proofs.lemmas.Bool.{cases_lt, lt-ltb, le-ltb, ltb-true, le-leb, leb-true, eq-eqb, ne_eqb, eqb-true, and_parts, and_from, or_cases, or_left, or_right}
use Rattle.std.proofs.lemmas.List.{drop_at, drop-drop, drop-append-le}
use Rattle.std.proofs.lemmas.List.Elements.{filter-append}
use Rattle.std.proofs.lemmas.List.FromFn.{length-range_with_len}
use Rattle.gopher_catalogue.specs.Event.{OpeningData, EventData, Opened, Claimed, Found, Failed}
use Rattle.gopher_catalogue.specs.Frontier.{known, claims, finds, failures, outcomes, numbers, waiting, is_out, is_done}
use Rattle.gopher_catalogue.specs.Legal.{MayFollow, FollowEachOther, IsLegal, HasSimpleStates}
use Rattle.gopher_catalogue.proofs.Places.{bools_agree, filter_every}
use Rattle.gopher_catalogue.proofs.Ranges.{range-append, filter_range_none, filter_range_agree}
use Rattle.gopher_catalogue.proofs.Legal.{legal_ind}
use Rattle.gopher_catalogue.proofs.Steps.{is_out-claims, is_out_from_claims, is_done_is, known_same, length-known_push}
use Rattle.gopher_catalogue.proofs.Queue.{waiting-nil, waiting_push}
use Rattle.gopher_catalogue.proofs.Counting.{times, times-range_within, times-range_outside}
use Rattle.gopher_catalogue.proofs.States.{State, Waiting, Outside, WasFound, GivenUp, NotKnown, state, bounds}
use Rattle.gopher_catalogue.proofs.LegalSizes.{claimed_by, length_by_push, claimed_most, out_is, done_is}

pub filter_range_every : (p : ℕ → Bool) (a n : ℕ) → ((m : ℕ) → a ≤ m → m < a + n → p m ≡ true) → filter p (range_with_len a n) ≡ range_with_len a n
filter_range_every p a n h = filter_range_agree p (λ m. true) a n h ∙ filter_every (range_with_len a n)

-- each known number enters the queue once, in order, and each claim takes the next
one_try-waiting : (opening : OpeningData) (events : List EventData) → IsLegal (Opened opening ∷ events) → opening.tries ≡ 1 → waiting opening events ≡ drop (length (flat_map claimed_by events)) (numbers opening events)
one_try-waiting opening events legal one = legal_ind (λ es. waiting opening es ≡ drop (length (flat_map claimed_by es)) (numbers opening es)) opening (waiting-nil opening) step events legal.1 where
  step : (es : List EventData) (e : EventData) → FollowEachOther opening es → MayFollow opening es e → waiting opening es ≡ drop (length (flat_map claimed_by es)) (numbers opening es)
      → waiting opening (es ++ e ∷ []) ≡ drop (length (flat_map claimed_by (es ++ e ∷ []))) (numbers opening (es ++ e ∷ []))
  step es (Opened other) follows may ih = absurd may
  step es (Claimed n) follows may ih =
      waiting_push opening es follows (Claimed n) ∙ ap (drop 1) ih ∙ drop-drop 1 (length (flat_map claimed_by es)) (numbers opening es)
      ∙ rw (length_by_push claimed_by es (Claimed n), known_same opening es (Claimed n) refl) refl
  step es (Found n page) follows may ih =
      let made : ℕ = length (flat_map claimed_by es) in
      let before : ℕ = length (known opening es) in
      let after : ℕ = length (known opening (es ++ Found n page ∷ [])) in
      let grows : before ≤ after = length-known_push opening es (Found n page) in
      let fits : made ≤ length (range_with_len 0 before) = omega (arith, claimed_most opening es (legal.0, follows), ap (λ t. before * t) one, length-range_with_len 0 before) in
      let e1 : before + (after - before) ≡ after = omega arith in
      let e2 : 0 + before ≡ before = omega arith in
      let e3 : length (flat_map claimed_by (es ++ Found n page ∷ [])) ≡ made = length_by_push claimed_by es (Found n page) ∙ omega arith in
      let joined : range_with_len 0 before ++ range_with_len before (after - before) ≡ range_with_len 0 (before + (after - before)) =
      rw e2 at (sym (range-append 0 before (after - before))) in
      waiting_push opening es follows (Found n page) ∙ ap (λ ns. ns ++ range_with_len before (after - before)) ih
      ∙ sym (drop-append-le made (range_with_len 0 before) (range_with_len before (after - before)) fits)
      ∙ ap (drop made) (joined ∙ ap (range_with_len 0) e1) ∙ ap (λ k. drop k (range_with_len 0 after)) (sym e3)
  step es (Failed n why) follows may ih =
      let last : opening.tries ≤ claims es n = omega (arith, is_out-claims es n may.is_out) in
      let same : length (flat_map claimed_by (es ++ Failed n why ∷ [])) ≡ length (flat_map claimed_by es) = length_by_push claimed_by es (Failed n why) ∙ omega arith in
      waiting_push opening es follows (Failed n why) ∙ rw (le-ltb (claims es n) opening.tries last, same, known_same opening es (Failed n why) refl) ih

-- a known number waits until it is claimed
claimed_or_waits : {tries known n w c f l : ℕ} → tries ≡ 1 → n < known → State tries known n w c f l → c + w ≡ 1
claimed_or_waits one h (Waiting k once never same left) = omega arith
claimed_or_waits one h (Outside k none never same few) = omega arith
claimed_or_waits one h (WasFound k none once same few) = omega arith
claimed_or_waits one h (GivenUp k none never same last) = omega arith
claimed_or_waits one h (NotKnown k none a b e) = absurd (omega arith)

out_simply : (opening : OpeningData) (events : List EventData) (n : ℕ) → claims events n ≤ 1 → is_out events n ≡ (ltb 0 (claims events n) && eqb (outcomes events n) 0)
out_simply opening events n few =
    bools_agree (is_out events n) (ltb 0 (claims events n) && eqb (outcomes events n) 0)
    (λ h. and_from (ltb 0 (claims events n)) (eqb (outcomes events n) 0) (lt-ltb 0 (claims events n) (omega (arith, is_out-claims events n h))) (eq-eqb (outcomes events n) 0 (omega (arith, is_out-claims events n h))))
    (λ h.
    let parts = and_parts (ltb 0 (claims events n)) (eqb (outcomes events n) 0) h in
    is_out_from_claims events n (omega (arith, ltb-true 0 (claims events n) parts.0, eqb-true (outcomes events n) 0 parts.1)))

done_simply : (opening : OpeningData) (events : List EventData) (n : ℕ) → opening.tries ≡ 1 → is_done opening events n ≡ ltb 0 (outcomes events n)
done_simply opening events n one =
    is_done_is events n opening
    ∙ bools_agree (ltb 0 (finds events n) || leb opening.tries (failures events n)) (ltb 0 (outcomes events n))
    (λ h. lt-ltb 0 (outcomes events n) (elim (or_cases (ltb 0 (finds events n)) (leb opening.tries (failures events n)) h) as (λ q. 0 < outcomes events n) [
      | inl found ↦ omega (arith, ltb-true 0 (finds events n) found)
      | inr failed ↦ omega (arith, leb-true opening.tries (failures events n) failed)
    ]))
    (λ h.
    let some = ltb-true 0 (outcomes events n) h in
    elim (cases_lt 0 (finds events n)) as (λ q. (ltb 0 (finds events n) || leb opening.tries (failures events n)) ≡ true) [
      | inl found ↦ or_left (ltb 0 (finds events n)) (leb opening.tries (failures events n)) (lt-ltb 0 (finds events n) found)
      | inr none ↦ or_right (ltb 0 (finds events n)) (leb opening.tries (failures events n)) (le-leb opening.tries (failures events n) (omega arith))
    ])

pub one_try-states : (opening : OpeningData) (events : List EventData) → IsLegal (Opened opening ∷ events) → opening.tries ≡ 1 → HasSimpleStates opening events
one_try-states opening events legal one =
    let count : ℕ = length (known opening events) in
    let made : ℕ = length (flat_map claimed_by events) in
    let fits : made ≤ count = omega (arith, claimed_most opening events legal, ap (λ t. count * t) one) in
    let e1 : count ≡ made + (count - made) = omega arith in
    let e2 : 0 + made ≡ made = omega arith in
    let split : numbers opening events ≡ range_with_len 0 made ++ range_with_len made (count - made) =
    ap (range_with_len 0) e1 ∙ (rw e2 at (range-append 0 made (count - made))) in
    let waits : waiting opening events ≡ range_with_len made (count - made) =
    one_try-waiting opening events legal one ∙ ap (drop made) split ∙ drop_at (range_with_len 0 made) (range_with_len made (count - made)) made (length-range_with_len 0 made) in
    let unclaimed : ℕ → Bool = λ n. eqb (claims events n) 0 in
    let sums : (n : ℕ) → n < count → claims events n + times n (range_with_len made (count - made)) ≡ 1 =
    λ n h. ap (λ ns. claims events n + times n ns) (sym waits) ∙ claimed_or_waits one h (state opening events legal n) in
    let taken : (n : ℕ) → 0 ≤ n → n < 0 + made → unclaimed n ≡ false =
    λ n l u. ne_eqb (claims events n) 0 (λ e. omega (arith, sums n (omega arith), times-range_outside n made (count - made) (inl (omega arith)))) in
    let left : (n : ℕ) → made ≤ n → n < made + (count - made) → unclaimed n ≡ true =
    λ n l u. eq-eqb (claims events n) 0 (omega (arith, sums n (omega arith), times-range_within n made (count - made) l u)) in
    record {
      waiting_is =
          waits
          ∙ sym (ap (filter unclaimed) split ∙ filter-append unclaimed (range_with_len 0 made) (range_with_len made (count - made))
          ∙ rw (filter_range_none unclaimed 0 made taken) (filter_range_every unclaimed made (count - made) left));
      out_is = out_is opening events ∙ filter_range_agree (is_out events) (λ n. ltb 0 (claims events n) && eqb (outcomes events n) 0) 0 count (λ n l u. out_simply opening events n (omega (arith, (bounds opening events legal n).3)));
      done_is = done_is opening events ∙ filter_range_agree (is_done opening events) (λ n. ltb 0 (outcomes events n)) 0 count (λ n l u. done_simply opening events n one);
    }
