-- A record whose outcomes are a table's agrees with the table.
use Rattle.std.proofs.Common.{◌≡◌, ℕ, suc, ◌<◌, List, ◌∷◌, length, take, slice_get, Option, None, Some, IsTrue, refl, sym, ap, subst, ◌∙◌}
use Rattle.std.proofs.lemmas.Bool.{false≢true}
use Rattle.gopher_item.specs.Place.{PlaceData}
use Rattle.gopher_catalogue.specs.declared.event.EventData.{EventData}
use Rattle.gopher_catalogue.specs.declared.event.EventData.TheVariants.{Opened, Claimed, Found, Failed}
use Rattle.gopher_catalogue.specs.Closure.{IsTold, is_outcome_of, last_outcome}
use Rattle.gopher_catalogue.specs.Frontier.{known}
use Rattle.gopher_catalogue.specs.Legal.{MayFollow}
use Rattle.gopher_catalogue.specs.Opening.{OpeningData}
use Rattle.gopher_catalogue.proofs.LastOutcome.{last_outcome_at}
use Rattle.gopher_catalogue.proofs.Lists.{slice_get_at}
use Rattle.gopher_catalogue.proofs.Reach.{known_stays}
use Rattle.gopher_crew.specs.Admitted.{IsPlaceIn, AdmittedOutcomesAgree}
use Rattle.gopher_crew.proofs.Admitting.{found_number, failed_number, places_known}

-- the number of an outcome is known before it
outcome_within : (opening : OpeningData) (before : List EventData) (number : ℕ) (event : EventData) → MayFollow opening before event → IsTrue (is_outcome_of number event) → number < length (known opening before)
outcome_within opening before number (Opened other) may is = absurd may
outcome_within opening before number (Claimed n) may is = absurd (false≢true is)
outcome_within opening before number (Found n page) may is = let same : number ≡ n = found_number number n page is in rw same may.0.is_known
outcome_within opening before number (Failed n why) may is = let same : number ≡ n = failed_number number n why is in rw same may.is_known

-- the place of a number that was known early is its place
early_place : (opening : OpeningData) (events : List EventData) (k number : ℕ) (place : PlaceData) → slice_get (known opening events) number ≡ Some place
    → number < length (known opening (take k events)) → IsPlaceIn (Opened opening ∷ take k events) number place
early_place opening events k number place at' within =
    let early = slice_get_at (known opening (take k events)) number within in
    let stays : slice_get (known opening events) number ≡ Some early.0 = known_stays opening events k number early.0 early.1 in
    let same : early.0 ≡ place = cc (stays, at') in
    ap (λ ps. slice_get ps number) (places_known opening (take k events)) ∙ early.1 ∙ ap Some same

pub agree : AdmittedOutcomesAgree
agree opening events table legal all number place at' = by (last_outcome events number) refl
  where
    by : (last : Option EventData) → last_outcome events number ≡ last → IsTold opening.scope place (table place) (last_outcome events number)
    by None e = subst (IsTold opening.scope place (table place)) (sym e) tt
    by (Some event) e =
        let last = last_outcome_at number events event e in
        let within = outcome_within opening (take last.0 events) number event (legal.1 last.0 event last.1) last.2 in
        subst (IsTold opening.scope place (table place)) (sym e) (all.each (suc last.0) event last.1 number place last.2 (early_place opening events last.0 number place at' within))
