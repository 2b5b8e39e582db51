-- The states of a number in a legal record: it waits, is out, is done, or isn't known yet.
use Rattle.std.proofs.Common.{◌≡◌, ℕ, ◌+◌, ◌-◌, ◌≤◌, ◌<◌, Bool, true, false, ◌||◌, cond, List, [], ◌∷◌, ◌++◌, length, drop, ◌⊎◌, inl, inr, Some, refl, sym, ◌∙◌, ap, arith, eqb, ltb, leb}
use Rattle.std.specs.List.{slice_get, range_with_len}
use Rattle.std.proofs.lemmas.Bool.{cases_lt, cases_eq, eq-eqb, ne_eqb, lt-ltb, le-ltb, lt-leb, le-leb}
use Rattle.gopher_item.specs.Place.{PlaceData}
use Rattle.gopher_page.specs.Page.{PageData}
use Rattle.gopher_catalogue.specs.declared.event.Why.{Why}
use Rattle.gopher_catalogue.specs.Event.{OpeningData, EventData, Opened, Claimed, Found, Failed}
use Rattle.gopher_catalogue.specs.Frontier.{known, claims, finds, failures, waiting, is_out}
use Rattle.gopher_catalogue.specs.Legal.{MayFollow, FollowEachOther, IsLegal}
use Rattle.gopher_catalogue.proofs.Legal.{legal_ind}
use Rattle.gopher_catalogue.proofs.Lists.{slice_get_at}
use Rattle.gopher_catalogue.proofs.Steps.{claims_push, finds_push, failures_push, is_out-claims, known_same, length-known_push}
use Rattle.gopher_catalogue.proofs.Queue.{waiting-nil, waiting_push}
use Rattle.gopher_catalogue.proofs.Counting.{times, times-nil, times-cons, times-append, times_at, times-range_outside, times-range_within, one-same, one-other}

-- the state of the number n: how often it waits, was claimed, found and failed, in each state
pub data State (tries known n waits claims finds failures : ℕ) : Type 0 where
  Waiting : n < known → waits ≡ 1 → finds ≡ 0 → claims ≡ failures → claims < tries → State tries known n waits claims finds failures
  Outside : n < known → waits ≡ 0 → finds ≡ 0 → claims ≡ failures + 1 → claims ≤ tries → State tries known n waits claims finds failures
  WasFound : n < known → waits ≡ 0 → finds ≡ 1 → claims ≡ failures + 1 → claims ≤ tries → State tries known n waits claims finds failures
  GivenUp : n < known → waits ≡ 0 → finds ≡ 0 → claims ≡ failures → failures ≡ tries → State tries known n waits claims finds failures
  NotKnown : known ≤ n → waits ≡ 0 → claims ≡ 0 → finds ≡ 0 → failures ≡ 0 → State tries known n waits claims finds failures

-- ---- what the counts say of the state

pub record Waits (tries known n waits claims finds failures : ℕ) : Type 0 where
  pub is_known : n < known
  pub once : waits ≡ 1
  pub never_found : finds ≡ 0
  pub each_failed : claims ≡ failures
  pub tries_left : claims < tries

pub record Out (tries known n waits claims finds failures : ℕ) : Type 0 where
  pub is_known : n < known
  pub not_waiting : waits ≡ 0
  pub never_found : finds ≡ 0
  pub others_failed : claims ≡ failures + 1
  pub few_claims : claims ≤ tries

module _ {tries known n w c f l : ℕ} where
  waits_if : State tries known n w c f l → 1 ≤ w → Waits tries known n w c f l
  waits_if (Waiting k once never same left) h = record { is_known = k; once = once; never_found = never; each_failed = same; tries_left = left }
  waits_if (Outside k none never same few) h = absurd (omega arith)
  waits_if (WasFound k none once same few) h = absurd (omega arith)
  waits_if (GivenUp k none never same last) h = absurd (omega arith)
  waits_if (NotKnown k none a b e) h = absurd (omega arith)

  out_if : State tries known n w c f l → c ≡ f + l + 1 → Out tries known n w c f l
  out_if (Waiting k once never same left) h = absurd (omega arith)
  out_if (Outside k none never same few) h = record { is_known = k; not_waiting = none; never_found = never; others_failed = same; few_claims = few }
  out_if (WasFound k none once same few) h = absurd (omega arith)
  out_if (GivenUp k none never same last) h = absurd (omega arith)
  out_if (NotKnown k none a b e) h = absurd (omega arith)

  unknown_if : State tries known n w c f l → known ≤ n → (w ≡ 0) × (c ≡ 0) × (f ≡ 0) × (l ≡ 0)
  unknown_if (Waiting k once never same left) h = absurd (omega arith)
  unknown_if (Outside k none never same few) h = absurd (omega arith)
  unknown_if (WasFound k none once same few) h = absurd (omega arith)
  unknown_if (GivenUp k none never same last) h = absurd (omega arith)
  unknown_if (NotKnown k none a b e) h = (none, a, b, e)

  -- the bounds on the counts in each state
  bounds_in : 1 ≤ tries → State tries known n w c f l → (f + l ≤ c) × (c ≤ f + l + 1) × (f ≤ 1) × (c ≤ tries)
  bounds_in some (Waiting k once never same left) = (omega arith, omega arith, omega arith, omega arith)
  bounds_in some (Outside k none never same few) = (omega arith, omega arith, omega arith, omega arith)
  bounds_in some (WasFound k none once same few) = (omega arith, omega arith, omega arith, omega arith)
  bounds_in some (GivenUp k none never same last) = (omega arith, omega arith, omega arith, omega arith)
  bounds_in some (NotKnown k none a b e) = (omega arith, omega arith, omega arith, omega arith)

  -- the tests of a number that is out, and of one that is done
  pub tests_in : 1 ≤ tries → State tries known n w c f l → let T : ℕ = cond (ltb n known) 1 0 in w + cond (eqb c (f + l + 1)) T 0 + cond (ltb 0 f || leb tries l) T 0 ≡ T
  tests_in some (Waiting k once never same left) = rw (ne_eqb c (f + l + 1) (λ e. omega arith), le-ltb 0 f (omega arith), lt-leb tries l (omega arith), lt-ltb n known k) (omega arith)
  tests_in some (Outside k none never same few) = rw (eq-eqb c (f + l + 1) (omega arith), le-ltb 0 f (omega arith), lt-leb tries l (omega arith), lt-ltb n known k) (omega arith)
  tests_in some (WasFound k none once same few) = rw (ne_eqb c (f + l + 1) (λ e. omega arith), lt-ltb 0 f (omega arith), lt-ltb n known k) (omega arith)
  tests_in some (GivenUp k none never same last) = rw (ne_eqb c (f + l + 1) (λ e. omega arith), le-ltb 0 f (omega arith), le-leb tries l (omega arith), lt-ltb n known k) (omega arith)
  tests_in some (NotKnown k none a b e) = rw (ne_eqb c (f + l + 1) (λ e. omega arith), le-ltb 0 f (omega arith), lt-leb tries l (omega arith), le-ltb n known k) (omega arith)

  -- the state stays while the counts stay, also where more places are known
  kept : {known' w' c' f' l' : ℕ} → State tries known n w c f l → known ≤ known' → (n < known) ⊎ (known' ≤ n) → w' ≡ w → c' ≡ c → f' ≡ f → l' ≡ l → State tries known' n w' c' f' l'
  kept (Waiting k once never same left) more known_yet ew ec ef el = Waiting (omega arith) (omega arith) (omega arith) (omega arith) (omega arith)
  kept (Outside k none never same few) more known_yet ew ec ef el = Outside (omega arith) (omega arith) (omega arith) (omega arith) (omega arith)
  kept (WasFound k none once same few) more known_yet ew ec ef el = WasFound (omega arith) (omega arith) (omega arith) (omega arith) (omega arith)
  kept (GivenUp k none never same last) more known_yet ew ec ef el = GivenUp (omega arith) (omega arith) (omega arith) (omega arith) (omega arith)
  kept (NotKnown k none a b e) more (inl within) ew ec ef el = absurd (omega arith)
  kept (NotKnown k none a b e) more (inr beyond) ew ec ef el = NotKnown beyond (omega arith) (omega arith) (omega arith) (omega arith)

-- ---- the state of each number in a legal record

abbrev pub StateIn : OpeningData → List EventData → ℕ → Type 0
StateIn opening events n = State opening.tries (length (known opening events)) n (times n (waiting opening events)) (claims events n) (finds events n) (failures events n)

first_and_rest : (ns : List ℕ) (n : ℕ) → slice_get ns 0 ≡ Some n → ns ≡ n ∷ drop 1 ns
first_and_rest [] n h = cc
first_and_rest (m ∷ ns) n h = let e : m ≡ n = cc in rw e refl

none_counted : (n : ℕ) → (claims [] n ≡ 0) × (finds [] n ≡ 0) × (failures [] n ≡ 0)
unfolding claims finds failures
none_counted n = (refl, refl, refl)

module _ (opening : OpeningData) where
  begin : 1 ≤ opening.tries → (n : ℕ) → StateIn opening [] n
  begin some n =
      let none = none_counted n in
      let count : ℕ = length (known opening []) in
      elim (cases_lt n count) as (λ q. StateIn opening [] n) [
        | inl within ↦ Waiting within (ap (times n) (waiting-nil opening) ∙ times-range_within n 0 count (omega arith) (omega arith)) none.1 (omega (arith, none.0, none.2)) (omega (arith, none.0))
        | inr beyond ↦ NotKnown beyond (ap (times n) (waiting-nil opening) ∙ times-range_outside n 0 count (inr (omega arith))) none.0 none.1 none.2
      ]

  module _ (es : List EventData) (follows : FollowEachOther opening es) (ih : (n : ℕ) → StateIn opening es n) (n : ℕ) where
    claim_state : slice_get (waiting opening es) 0 ≡ Some n → (m : ℕ) → StateIn opening (es ++ Claimed n ∷ []) m
    claim_state first m =
        let e : EventData = Claimed n in
        let k = ap length (known_same opening es e refl) in
        let w = ap (times m) (first_and_rest (waiting opening es) n first ∙ ap (λ ns. n ∷ ns) (sym (waiting_push opening es follows e))) ∙ times-cons m n (waiting opening (es ++ e ∷ [])) in
        let c = claims_push es e m in
        let f = finds_push es e m in
        let l = failures_push es e m in
        elim (cases_eq m n) as (λ q. StateIn opening (es ++ e ∷ []) m) [
          | inl same ↦
              let one = one-same m n same in
              let old = waits_if (ih m) (omega arith) in
              Outside (omega arith) (omega arith) (omega arith) (omega arith) (omega arith)
          | inr ne ↦
              let none = one-other m n ne in
              elim (cases_lt m (length (known opening es))) as (λ q. StateIn opening (es ++ e ∷ []) m) [
                | inl within ↦ kept (ih m) (omega arith) (inl within) (omega arith) (omega arith) (omega arith) (omega arith)
                | inr beyond ↦ kept (ih m) (omega arith) (inr (omega arith)) (omega arith) (omega arith) (omega arith) (omega arith)
              ]
        ]

    found_state : (page : PageData) → 1 ≤ opening.tries → n < length (known opening es) → is_out es n ≡ true → (m : ℕ) → StateIn opening (es ++ Found n page ∷ []) m
    found_state page some is_known is_out' m =
        let e : EventData = Found n page in
        let count : ℕ = length (known opening es) in
        let more : ℕ = length (known opening (es ++ e ∷ [])) - count in
        let k = length-known_push opening es e in
        let w = ap (times m) (waiting_push opening es follows e) ∙ times-append m (waiting opening es) (range_with_len count more) in
        let c = claims_push es e m in
        let f = finds_push es e m in
        let l = failures_push es e m in
        elim (cases_lt m count) as (λ q. StateIn opening (es ++ e ∷ []) m) [
          | inl within ↦
              let outside = times-range_outside m count more (inl within) in
              elim (cases_eq m n) as (λ q. StateIn opening (es ++ e ∷ []) m) [
                | inl same ↦
                    let one = one-same m n same in
                    let old = out_if (ih m) (is_out-claims es m (ap (is_out es) same ∙ is_out')) in
                    WasFound (omega arith) (omega arith) (omega arith) (omega arith) (omega arith)
                | inr ne ↦ let none = one-other m n ne in kept (ih m) k (inl within) (omega arith) (omega arith) (omega arith) (omega arith)
              ]
          | inr beyond ↦
              let none = one-other m n (λ same. omega arith) in
              let old = unknown_if (ih m) beyond in
              elim (cases_lt m (length (known opening (es ++ e ∷ [])))) as (λ q. StateIn opening (es ++ e ∷ []) m) [
                | inl new ↦
                    let once = times-range_within m count more beyond (omega arith) in
                    Waiting new (omega (arith, old.0)) (omega (arith, old.2)) (omega (arith, old.1, old.3)) (omega (arith, old.1))
                | inr later ↦
                    let outside = times-range_outside m count more (inr (omega arith)) in
                    NotKnown later (omega (arith, old.0)) (omega (arith, old.1)) (omega (arith, old.2)) (omega (arith, old.3))
              ]
        ]

    failed_state : (why : Why) → is_out es n ≡ true → (m : ℕ) → StateIn opening (es ++ Failed n why ∷ []) m
    failed_state why is_out' m =
        let e : EventData = Failed n why in
        let k = ap length (known_same opening es e refl) in
        let c = claims_push es e m in
        let f = finds_push es e m in
        let l = failures_push es e m in
        elim (cases_eq m n) as (λ q. StateIn opening (es ++ e ∷ []) m) [
          | inl same ↦
              let one = one-same m n same in
              let old = out_if (ih m) (is_out-claims es m (ap (is_out es) same ∙ is_out')) in
              elim (cases_lt (claims es n) opening.tries) as (λ q. StateIn opening (es ++ e ∷ []) m) [
                | inl left ↦
                    let w : times m (waiting opening (es ++ e ∷ [])) ≡ 1 = ap (times m) (waiting_push opening es follows e) ∙ rw (lt-ltb (claims es n) opening.tries left) (again m old.not_waiting one) in
                    Waiting (omega arith) w (omega arith) (omega arith) (omega (arith, ap (claims es) same))
                | inr last ↦
                    let w : times m (waiting opening (es ++ e ∷ [])) ≡ 0 = ap (times m) (waiting_push opening es follows e) ∙ rw (le-ltb (claims es n) opening.tries last) old.not_waiting in
                    GivenUp (omega arith) w (omega arith) (omega arith) (omega (arith, ap (claims es) same))
              ]
          | inr ne ↦
              let none = one-other m n ne in
              let w : times m (waiting opening (es ++ e ∷ [])) ≡ times m (waiting opening es) = ap (times m) (waiting_push opening es follows e) ∙ either (ltb (claims es n) opening.tries) none in
              elim (cases_lt m (length (known opening es))) as (λ q. StateIn opening (es ++ e ∷ []) m) [
                | inl within ↦ kept (ih m) (omega arith) (inl within) w (omega arith) (omega arith) (omega arith)
                | inr beyond ↦ kept (ih m) (omega arith) (inr (omega arith)) w (omega arith) (omega arith) (omega arith)
              ]
        ]
      where
        queue : List ℕ
        queue = waiting opening es

        again : (m : ℕ) → times m queue ≡ 0 → ◌≡◌ {A = ℕ} (cond (eqb m n) 1 0) 1 → times m (queue ++ n ∷ []) ≡ 1
        again m none one = omega (arith, times-append m queue (n ∷ []), times-cons m n [], times-nil m)

        either : (b : Bool) → ◌≡◌ {A = ℕ} (cond (eqb m n) 1 0) 0 → times m (cond b (queue ++ n ∷ []) queue) ≡ times m queue
        either true none = omega (arith, times-append m queue (n ∷ []), times-cons m n [], times-nil m)
        either false none = refl

module _ (opening : OpeningData) (events : List EventData) (legal : IsLegal (Opened opening ∷ events)) where
  pub state : (n : ℕ) → StateIn opening events n
  state = legal_ind (λ es. (n : ℕ) → StateIn opening es n) opening (begin opening legal.0.some_try) step events legal.1
    where
      step : (es : List EventData) (e : EventData) → FollowEachOther opening es → MayFollow opening es e → ((n : ℕ) → StateIn opening es n) → (n : ℕ) → StateIn opening (es ++ e ∷ []) n
      step es (Opened other) follows may ih = absurd may
      step es (Claimed n) follows may ih = claim_state opening es follows ih n may
      step es (Found n page) follows may ih = found_state opening es follows ih n page legal.0.some_try may.0.is_known may.0.is_out
      step es (Failed n why) follows may ih = failed_state opening es follows ih n why may.is_out

  abbrev pub WaitsNow : ℕ → Type 0
  WaitsNow n = Waits opening.tries (length (known opening events)) n (times n (waiting opening events)) (claims events n) (finds events n) (failures events n)

  pub waits_at : (k n : ℕ) → slice_get (waiting opening events) k ≡ Some n → WaitsNow n
  waits_at k n h = waits_if (state n) (times_at (waiting opening events) k n h)

  pub out_at : (n : ℕ) → is_out events n ≡ true → Out opening.tries (length (known opening events)) n (times n (waiting opening events)) (claims events n) (finds events n) (failures events n)
  out_at n h = out_if (state n) (is_out-claims events n h)

  pub unknown_at : (n : ℕ) → length (known opening events) ≤ n → (times n (waiting opening events) ≡ 0) × (claims events n ≡ 0) × (finds events n ≡ 0) × (failures events n ≡ 0)
  unknown_at n h = unknown_if (state n) h

  pub bounds : (n : ℕ) → (finds events n + failures events n ≤ claims events n) × (claims events n ≤ finds events n + failures events n + 1) × (finds events n ≤ 1) × (claims events n ≤ opening.tries)
  bounds n = bounds_in legal.0.some_try (state n)

  -- the first waiting number has a place
  pub place_waiting : (n : ℕ) → slice_get (waiting opening events) 0 ≡ Some n → (place : PlaceData) × (slice_get (known opening events) n ≡ Some place)
  place_waiting n h = slice_get_at (known opening events) n (waits_at 0 n h).is_known
