-- The queue of a legal record, event by event.
use Rattle.std.proofs.Common.{◌≡◌, ℕ, ◌+◌, ◌≤◌, Bool, true, false, cond, List, [], ◌∷◌, ◌++◌, length, drop, refl, sym, ◌∙◌, ap, arith, ltb}
use Rattle.std.specs.List.{range_with_len, count_by}
use Rattle.std.proofs.lemmas.List.{append-nil, append_assoc, length-append, length-drop, drop-drop, drop-append-le}
use Rattle.std.proofs.lemmas.List.Sums.{sum_by_push}
use Rattle.std.proofs.lemmas.Option.{slice_get_within}
use Rattle.gopher_catalogue.specs.Event.{OpeningData, EventData, Opened, Claimed, Found, Failed}
use Rattle.gopher_catalogue.specs.Frontier.{known, is_claim, claims, entered, entered_along, entries, waiting}
use Rattle.gopher_catalogue.specs.Legal.{MayFollow, FollowEachOther}
use Rattle.gopher_catalogue.proofs.Legal.{legal_ind}

abbrev claims_made : List EventData → ℕ
claims_made events = count_by is_claim events

claims_made_push : (events : List EventData) (e : EventData) → claims_made (events ++ e ∷ []) ≡ claims_made events + cond (is_claim e) 1 0
claims_made_push events e = sum_by_push (λ x. cond (is_claim x) 1 0) events e

entered_along_push : (opening : OpeningData) (before events : List EventData) (e : EventData) → entered_along opening before (events ++ e ∷ []) ≡ entered_along opening before events ++ entered opening (before ++ events) e
entered_along_push opening before [] e = rw (append-nil before, append-nil (entered opening before e)) refl
entered_along_push opening before (x ∷ events) e =
    ap (λ ns. entered opening before x ++ ns) (entered_along_push opening (before ++ x ∷ []) events e)
    ∙ rw (append_assoc before (x ∷ []) events) (sym (append_assoc (entered opening before x) (entered_along opening (before ++ x ∷ []) events) (entered opening (before ++ x ∷ events) e)))

-- the queue after an event
abbrev pub queue_after : OpeningData → List EventData → List ℕ → EventData → List ℕ
queue_after opening before queue (Claimed n) = drop 1 queue
queue_after opening before queue (Failed n why) = cond (ltb (claims before n) opening.tries) (queue ++ n ∷ []) queue
queue_after opening before queue e = queue ++ entered opening before e

module _ (opening : OpeningData) where
  pub waiting-nil : waiting opening [] ≡ range_with_len 0 (length (known opening []))
  unfolding waiting entries
  waiting-nil = append-nil (range_with_len 0 (length (known opening [])))

  waiting_is : (events : List EventData) → waiting opening events ≡ drop (claims_made events) (entries opening events)
  unfolding waiting
  waiting_is events = refl

  entries_push : (events : List EventData) (e : EventData) → entries opening (events ++ e ∷ []) ≡ entries opening events ++ entered opening events e
  unfolding entries
  entries_push events e =
      let first : List ℕ = range_with_len 0 (length (known opening [])) in
      ap (λ ns. first ++ ns) (entered_along_push opening [] events e) ∙ sym (append_assoc first (entered_along opening [] events) (entered opening events e))

  -- no more was claimed than entered
  few_claims : (events : List EventData) → FollowEachOther opening events → claims_made events ≤ length (entries opening events)
  few_claims events follows = legal_ind (λ es. claims_made es ≤ length (entries opening es)) opening (omega arith) step events follows where
    grows : (es : List EventData) (e : EventData) → length (entries opening (es ++ e ∷ [])) ≡ length (entries opening es) + length (entered opening es e)
    grows es e = ap length (entries_push es e) ∙ length-append (entries opening es) (entered opening es e)

    step : (es : List EventData) (e : EventData) → FollowEachOther opening es → MayFollow opening es e → claims_made es ≤ length (entries opening es) → claims_made (es ++ e ∷ []) ≤ length (entries opening (es ++ e ∷ []))
    step es (Opened other) follows may ih = absurd may
    step es (Claimed n) follows may ih =
        let some = slice_get_within (waiting opening es) 0 n may in
        omega (arith, claims_made_push es (Claimed n), grows es (Claimed n), ap length (waiting_is es), length-drop (claims_made es) (entries opening es))
    step es (Found n page) follows may ih = omega (arith, claims_made_push es (Found n page), grows es (Found n page))
    step es (Failed n why) follows may ih = omega (arith, claims_made_push es (Failed n why), grows es (Failed n why))

  module _ (events : List EventData) (follows : FollowEachOther opening events) where
    -- an event that isn't a claim appends what it enters
    appended : (e : EventData) → is_claim e ≡ false → waiting opening (events ++ e ∷ []) ≡ waiting opening events ++ entered opening events e
    appended e other =
        let made : claims_made (events ++ e ∷ []) ≡ claims_made events = claims_made_push events e ∙ rw other (omega arith) in
        waiting_is (events ++ e ∷ []) ∙ rw (made, entries_push events e) (drop-append-le (claims_made events) (entries opening events) (entered opening events e) (few_claims events follows))
        ∙ ap (λ ns. ns ++ entered opening events e) (sym (waiting_is events))

    failed : (b : Bool) (queue : List ℕ) (n : ℕ) → queue ++ cond b (n ∷ []) [] ≡ cond b (queue ++ n ∷ []) queue
    failed true queue n = refl
    failed false queue n = append-nil queue

    pub waiting_push : (e : EventData) → waiting opening (events ++ e ∷ []) ≡ queue_after opening events (waiting opening events) e
    waiting_push (Opened other) = appended (Opened other) refl
    waiting_push (Claimed n) =
        let all = entries_push events (Claimed n) ∙ append-nil (entries opening events) in
        waiting_is (events ++ Claimed n ∷ []) ∙ rw (claims_made_push events (Claimed n), all) (sym (drop-drop 1 (claims_made events) (entries opening events))) ∙ ap (drop 1) (sym (waiting_is events))
    waiting_push (Found n page) = appended (Found n page) refl
    waiting_push (Failed n why) = appended (Failed n why) refl ∙ failed (ltb (claims events n) opening.tries) (waiting opening events) n
