-- Legal records: one more event, prefixes, and induction.
use Rattle.std.proofs.Common.{ℕ, suc, zero, ◌≤◌, ◌<◌, List, [], ◌∷◌, ◌++◌, length, take, inl, inr, refl, sym, ◌∙◌, subst, arith}
use Rattle.std.proofs.lemmas.List.{take_all, take-take, take-append-le, take_at, length-take}
use Rattle.std.proofs.lemmas.Option.{slice_get_within}
use Rattle.gopher_catalogue.specs.Event.{OpeningData, EventData, Opened, Claimed, Found, Failed}
use Rattle.gopher_catalogue.specs.Legal.{IsLegalOpening, MayFollow, FollowEachOther, IsLegal}
use Rattle.gopher_catalogue.proofs.Lists.{slice_get_push_cases, slice_get-take, take_next}

-- ---- events that follow each other

pub FollowEachOther-nil : (opening : OpeningData) → FollowEachOther opening []
FollowEachOther-nil opening k event h = cc

pub FollowEachOther-push : (opening : OpeningData) (events : List EventData) (e : EventData) → FollowEachOther opening events → MayFollow opening events e → FollowEachOther opening (events ++ e ∷ [])
FollowEachOther-push opening events e follows may k event h =
    elim (slice_get_push_cases events e k event h) as (λ c. MayFollow opening (take k (events ++ e ∷ [])) event) [
      | inl old ↦ let le : k ≤ length events = omega arith in rw take-append-le (follows k event old.1)
      | inr new ↦ rw (new.0, take_at events (e ∷ []) (length events) refl) (subst (λ x. MayFollow opening events x) new.1 may)
    ]

pub FollowEachOther-take : (opening : OpeningData) (events : List EventData) (n : ℕ) → FollowEachOther opening events → FollowEachOther opening (take n events)
FollowEachOther-take opening events n follows k event h =
    let within : k < length (take n events) = slice_get_within (take n events) k event h in
    let lt : k < n = omega (arith, length-take n events) in
    let le : k ≤ n = omega arith in
    rw take-take (follows k event (sym (slice_get-take n events k lt) ∙ h))

-- a property of an opened record that each event that may follow keeps holds for all legal records
pub legal_ind : (P : List EventData → Type 0) (opening : OpeningData) → P [] → ((events : List EventData) (e : EventData) → FollowEachOther opening events → MayFollow opening events e → P events → P (events ++ e ∷ [])) → (events : List EventData) → FollowEachOther opening events → P events
legal_ind P opening base step events follows = subst P (take_all (length events) events (omega arith)) (upto (length events) (omega arith)) where
  upto : (n : ℕ) → n ≤ length events → P (take n events)
  upto zero h = base
  upto (suc n) h =
      let next = take_next events n (omega arith) in
      let before : P (take n events) = upto n (omega arith) in
      rw next.2 (step (take n events) next.0 (FollowEachOther-take opening events n follows) (follows n next.0 next.1) before)

-- ---- whole records

pub IsLegal-opened : (opening : OpeningData) → IsLegalOpening opening → IsLegal (Opened opening ∷ [])
IsLegal-opened opening legal = (legal, FollowEachOther-nil opening)

-- one more event that may follow
pub IsLegal-push : (opening : OpeningData) (events : List EventData) (e : EventData) → IsLegal (Opened opening ∷ events) → MayFollow opening events e → IsLegal (Opened opening ∷ events ++ e ∷ [])
IsLegal-push opening events e legal may = (legal.0, FollowEachOther-push opening events e legal.1 may)

-- what holds of each legal record with an opening holds of each legal record
pub legal_record : (P : List EventData → Type 0) → ((opening : OpeningData) (events : List EventData) → IsLegal (Opened opening ∷ events) → P (Opened opening ∷ events)) → (record_ : List EventData) → IsLegal record_ → P record_
legal_record P holds [] legal = absurd legal
legal_record P holds (Opened opening ∷ events) legal = holds opening events legal
legal_record P holds (Claimed number ∷ events) legal = absurd legal
legal_record P holds (Found number page ∷ events) legal = absurd legal
legal_record P holds (Failed number why ∷ events) legal = absurd legal

-- a prefix that contains the opening
pub IsLegal-take_more : (record_ : List EventData) (n : ℕ) → IsLegal record_ → 1 ≤ n → IsLegal (take n record_)
IsLegal-take_more record_ zero legal some = absurd (omega arith)
IsLegal-take_more record_ (suc n) legal some = legal_record (λ r. IsLegal (take (suc n) r)) (λ opening events legal. (legal.0, FollowEachOther-take opening events n legal.1)) record_ legal
