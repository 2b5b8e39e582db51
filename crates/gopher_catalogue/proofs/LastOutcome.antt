-- The last outcome of a number: which event it is, and when no later one can follow.
use Rattle.std.proofs.Common.{◌≡◌, ℕ, suc, zero, ◌≤◌, ◌<◌, Bool, true, false, cond, List, [], ◌∷◌, ◌++◌, length, take, get_or, inl, inr, Some, None, refl, sym, ◌∙◌, ap, subst, arith, eqb, slice_get, count_by}
use Rattle.std.proofs.lemmas.Bool.{cases_Bool, false≢true, or_parts, or_cases, or_left, eq-eqb, eqb-true, false_from_ne_true}
use Rattle.std.proofs.lemmas.Option.{slice_get_within, get_or_from_slice_get}
use Rattle.std.proofs.lemmas.List.{take_all}
use Rattle.std.proofs.lemmas.List.Sums.{fold_push, get_or-le-sum_by}
use Rattle.gopher_page.specs.Page.{PageData}
use Rattle.gopher_catalogue.specs.Event.{OpeningData, EventData, Opened, Claimed, Found, Failed}
use Rattle.gopher_catalogue.specs.Frontier.{finds, failures, is_out, is_find_of, is_failure_of}
use Rattle.gopher_catalogue.specs.Legal.{MayFollow, FollowEachOther, IsLegal}
use Rattle.gopher_catalogue.specs.Closure.{is_outcome_of, last_outcome}
use Rattle.gopher_catalogue.proofs.Lists.{slice_get_push_cases, slice_get-append_left, slice_get_last, take_next}
use Rattle.gopher_catalogue.proofs.Legal.{legal_ind}
use Rattle.gopher_catalogue.proofs.Steps.{finds_push, failures_push}
use Rattle.gopher_catalogue.proofs.States.{out_at}

-- a property of the empty list that one more element at the end keeps holds for all lists
pub push_ind : {X : Type 0} (P : List X → Type 0) → P [] → ((xs : List X) (x : X) → P xs → P (xs ++ x ∷ [])) → (xs : List X) → P xs
push_ind {X = X} P base step xs = subst P (take_all (length xs) xs (omega arith)) (upto (length xs) (omega arith)) where
  upto : (n : ℕ) → n ≤ length xs → P (take n xs)
  upto zero h = base
  upto (suc n) h =
      let next = take_next xs n (omega arith) in
      let before : P (take n xs) = upto n (omega arith) in
      rw next.2 (step (take n xs) next.0 before)

pub count_at : {X : Type 0} (p : X → Bool) (xs : List X) (k : ℕ) (x : X) → slice_get xs k ≡ Some x → p x ≡ true → 1 ≤ count_by p xs
count_at p xs k x h t =
    let is : p (get_or xs k x) ≡ true = ap p (get_or_from_slice_get xs k x x h) ∙ t in
    omega (arith, get_or-le-sum_by (λ z. cond (p z) 1 0) xs k x (slice_get_within xs k x h), ap {B = ℕ} (λ b. cond b 1 0) is)

pub finds_at : (events : List EventData) (k n : ℕ) (e : EventData) → slice_get events k ≡ Some e → is_find_of n e ≡ true → 1 ≤ finds events n
unfolding finds
finds_at events k n e h t = count_at (is_find_of n) events k e h t

pub failures_at : (events : List EventData) (k n : ℕ) (e : EventData) → slice_get events k ≡ Some e → is_failure_of n e ≡ true → 1 ≤ failures events n
unfolding failures
failures_at events k n e h t = count_at (is_failure_of n) events k e h t

-- ---- one more event

last_outcome_push : (events : List EventData) (e : EventData) (n : ℕ) → last_outcome (events ++ e ∷ []) n ≡ cond (is_outcome_of n e) (Some e) (last_outcome events n)
unfolding last_outcome
last_outcome_push events e n = fold_push (λ last event. cond (is_outcome_of n event) (Some event) last) None events e

pub last_outcome_same : (events : List EventData) (e : EventData) (n : ℕ) → is_outcome_of n e ≡ true → last_outcome (events ++ e ∷ []) n ≡ Some e
last_outcome_same events e n h = last_outcome_push events e n ∙ rw h refl

pub last_outcome_other : (events : List EventData) (e : EventData) (n : ℕ) → is_outcome_of n e ≡ false → last_outcome (events ++ e ∷ []) n ≡ last_outcome events n
last_outcome_other events e n h = last_outcome_push events e n ∙ rw h refl

last_outcome-nil : (n : ℕ) → last_outcome [] n ≡ None
unfolding last_outcome
last_outcome-nil n = refl

-- ---- which event it is

pub last_outcome_at : (n : ℕ) (events : List EventData) (e : EventData) → last_outcome events n ≡ Some e → (k : ℕ) × (slice_get events k ≡ Some e) × (is_outcome_of n e ≡ true)
last_outcome_at n events = push_ind (λ es. (e : EventData) → last_outcome es n ≡ Some e → (k : ℕ) × (slice_get es k ≡ Some e) × (is_outcome_of n e ≡ true)) base step events where
  base : (e : EventData) → last_outcome [] n ≡ Some e → (k : ℕ) × (slice_get [] k ≡ Some e) × (is_outcome_of n e ≡ true)
  base e h = let none = last_outcome-nil n in cc

  step : (es : List EventData) (x : EventData) → ((e : EventData) → last_outcome es n ≡ Some e → (k : ℕ) × (slice_get es k ≡ Some e) × (is_outcome_of n e ≡ true)) → (e : EventData) → last_outcome (es ++ x ∷ []) n ≡ Some e → (k : ℕ) × (slice_get (es ++ x ∷ []) k ≡ Some e) × (is_outcome_of n e ≡ true)
  step es x ih e h =
      elim (cases_Bool (is_outcome_of n x)) as (λ q. (k : ℕ) × (slice_get (es ++ x ∷ []) k ≡ Some e) × (is_outcome_of n e ≡ true)) [
        | inl same ↦
            let last = last_outcome_same es x n same in
            let is : x ≡ e = cc in
            (length es, slice_get_last es x ∙ ap Some is, subst (λ y. is_outcome_of n y ≡ true) is same)
        | inr other ↦
            let before = ih e (sym (last_outcome_other es x n other) ∙ h) in
            let within : before.0 < length es = slice_get_within es before.0 e before.1 in
            (before.0, slice_get-append_left es (x ∷ []) before.0 within ∙ before.1, before.2)
      ]

pub last_outcome_none : (n : ℕ) (events : List EventData) → last_outcome events n ≡ None → (finds events n ≡ 0) × (failures events n ≡ 0)
unfolding finds failures
last_outcome_none n events = push_ind (λ es. last_outcome es n ≡ None → (finds es n ≡ 0) × (failures es n ≡ 0)) (λ h. (refl, refl)) step events where
  step : (es : List EventData) (x : EventData) → (last_outcome es n ≡ None → (finds es n ≡ 0) × (failures es n ≡ 0)) → last_outcome (es ++ x ∷ []) n ≡ None → (finds (es ++ x ∷ []) n ≡ 0) × (failures (es ++ x ∷ []) n ≡ 0)
  step es x ih h =
      elim (cases_Bool (is_outcome_of n x)) as (λ q. (finds (es ++ x ∷ []) n ≡ 0) × (failures (es ++ x ∷ []) n ≡ 0)) [
        | inl same ↦ let last = last_outcome_same es x n same in absurd (cc)
        | inr other ↦
            let parts = or_parts (is_find_of n x) (is_failure_of n x) other in
            let before = ih (sym (last_outcome_other es x n other) ∙ h) in
            (finds_push es x n ∙ rw (parts.0, before.0) refl, failures_push es x n ∙ rw (parts.1, before.1) refl)
      ]

-- ---- when it stays the last

-- an outcome of a number that can't be out again is its last
stays_last : (opening : OpeningData) (n : ℕ) (kind : EventData → Bool) → ((es : List EventData) (k : ℕ) (e : EventData) → FollowEachOther opening es → slice_get es k ≡ Some e → is_outcome_of n e ≡ true → kind e ≡ true → is_out es n ≡ false) → (events : List EventData) → FollowEachOther opening events → (k : ℕ) (e : EventData) → slice_get events k ≡ Some e → is_outcome_of n e ≡ true → kind e ≡ true → last_outcome events n ≡ Some e
stays_last opening n kind ends events follows = legal_ind (λ es. (k : ℕ) (e : EventData) → slice_get es k ≡ Some e → is_outcome_of n e ≡ true → kind e ≡ true → last_outcome es n ≡ Some e) opening (λ k e h o t. cc) step events follows where
  out_of : (es : List EventData) (x : EventData) → MayFollow opening es x → is_outcome_of n x ≡ true → is_out es n ≡ true
  out_of es (Opened other) may o = absurd may
  out_of es (Claimed m) may o = absurd (false≢true o)
  out_of es (Found m page) may o =
      let same : n ≡ m = eqb-true n m (elim (or_cases (eqb n m) false o) as (λ q. eqb n m ≡ true) [ inl t ↦ t | inr f ↦ absurd (false≢true f) ]) in
      rw same may.0.is_out
  out_of es (Failed m why) may o = let same : n ≡ m = eqb-true n m o in rw same may.is_out

  step : (es : List EventData) (x : EventData) → FollowEachOther opening es → MayFollow opening es x → ((k : ℕ) (e : EventData) → slice_get es k ≡ Some e → is_outcome_of n e ≡ true → kind e ≡ true → last_outcome es n ≡ Some e) → (k : ℕ) (e : EventData) → slice_get (es ++ x ∷ []) k ≡ Some e → is_outcome_of n e ≡ true → kind e ≡ true → last_outcome (es ++ x ∷ []) n ≡ Some e
  step es x before may ih k e h o t =
      elim (slice_get_push_cases es x k e h) as (λ q. last_outcome (es ++ x ∷ []) n ≡ Some e) [
        | inl old ↦
            elim (cases_Bool (is_outcome_of n x)) as (λ q. last_outcome (es ++ x ∷ []) n ≡ Some e) [
              | inl again ↦ absurd (false≢true (sym (ends es k e before old.1 o t) ∙ out_of es x may again))
              | inr other ↦ last_outcome_other es x n other ∙ ih k e old.1 o t
            ]
        | inr new ↦ last_outcome_same es x n (subst (λ y. is_outcome_of n y ≡ true) (sym new.1) o) ∙ ap Some new.1
      ]

-- a find is its number's last outcome
pub find_is_last : (opening : OpeningData) (events : List EventData) → IsLegal (Opened opening ∷ events) → (k n : ℕ) (page : PageData) → slice_get events k ≡ Some (Found n page) → last_outcome events n ≡ Some (Found n page)
find_is_last opening events legal k n page h =
    let is_find : eqb n n ≡ true = eq-eqb n n refl in
    stays_last opening n (is_find_of n)
    (λ es j e follows at' o t. false_from_ne_true (is_out es n) (λ out'. omega (arith, finds_at es j n e at' t, (out_at opening es (legal.0, follows) n out').never_found)))
    events legal.1 k (Found n page) h (or_left (eqb n n) false is_find) is_find

-- with one try, each outcome is the last of its number
pub outcome_is_last : (opening : OpeningData) (events : List EventData) → IsLegal (Opened opening ∷ events) → opening.tries ≡ 1 → (k n : ℕ) (e : EventData) → slice_get events k ≡ Some e → is_outcome_of n e ≡ true → last_outcome events n ≡ Some e
outcome_is_last opening events legal one k n e h o =
    stays_last opening n (λ x. true)
    (λ es j x follows at' is t. false_from_ne_true (is_out es n) (λ out'.
    let state = out_at opening es (legal.0, follows) n out' in
    elim (or_cases (is_find_of n x) (is_failure_of n x) is) as (λ q. ⊥) [
      | inl found ↦ omega (arith, finds_at es j n x at' found, state.never_found)
      | inr failed ↦ omega (arith, failures_at es j n x at' failed, state.others_failed, state.few_claims)
    ]))
    events legal.1 k e h o refl
