-- What the record of a desk keeps at each call.
use Rattle.std.proofs.Common.{◌≡◌, ℕ, ◌+◌, ◌<◌, ◌≤◌, ◌^◌, List, [], ◌∷◌, ◌++◌, length, ap, sym, subst, ◌∙◌, arith, length-append}
use mathlib.Core.List.{IsPrefix}
use Rattle.gopher_catalogue.specs.declared.event.EventData.{EventData}
use Rattle.gopher_catalogue.specs.declared.event.EventData.TheVariants.{Claimed}
use Rattle.gopher_catalogue.specs.Legal.{IsLegal}
use Rattle.gopher_catalogue.specs.Step.{TurnData, Take, Idle, Finished, after_turn}
use Rattle.gopher_catalogue.proofs.LegalSizes.{length-record_fits}
use Rattle.gopher_crew.specs.Admitted.{EventRule, AllAdmitted, MayAdd}
use Rattle.gopher_crew.specs.Publication.{PublicationData, HasMade, IsShown, KeepsRecord}
use Rattle.gopher_crew.specs.Kept.{rise_of}
use Rattle.gopher_crew.proofs.Admitting.{turn_admitted, added_admitted}
use Rattle.gopher_crew.proofs.Making.{makers_grow}
use Rattle.gopher_crew.proofs.Prefixes.{prefix_self, prefix_push, prefix_trans}

-- a record begins with the record before a turn
pub turn_grows : (record_ : List EventData) (turn : TurnData) → IsPrefix record_ (after_turn record_ turn)
turn_grows record_ (Take number place) = prefix_push record_ (Claimed number)
turn_grows record_ Idle = prefix_self record_
turn_grows record_ Finished = prefix_self record_

pub turn_counts : (record_ : List EventData) (turn : TurnData) → length (after_turn record_ turn) ≡ length record_ + rise_of turn
turn_counts record_ (Take number place) = length-append record_ (Claimed number ∷ [])
turn_counts record_ Idle = omega arith
turn_counts record_ Finished = omega arith

-- the count of a record's events is small
pub few_events : (admits : EventRule) (record_ : List EventData) (publication : PublicationData) (count : ℕ) → KeepsRecord admits record_ publication count → count < 2 ^ 63
few_events admits record_ publication count kept = omega (arith, length-record_fits record_ kept.legal, kept.counted)

-- each event of a longer record has a maker
keeps_made : (record_ after : List EventData) (old new : PublicationData) (number : ℕ) → old.events ≡ record_ → length old.makers ≡ length record_
    → new.events ≡ after → HasMade number old new → length record_ ≤ length after → length new.makers ≡ length after
keeps_made record_ after old new number entered even entered' made more =
    let before : length old.events ≡ length record_ = ap (λ (l : List EventData). length l) entered in
    let now : length new.events ≡ length after = ap (λ (l : List EventData). length l) entered' in
    makers_grow number old.events new.events old.makers new.makers made (even ∙ sym before) (omega (arith, before, now, more)) ∙ now

-- what was entered begins the record after a turn
pub turn_keeps : (prefix record_ : List EventData) (turn : TurnData) → IsPrefix prefix record_ → IsPrefix prefix (after_turn record_ turn)
turn_keeps prefix record_ turn begun = prefix_trans prefix record_ (after_turn record_ turn) begun (turn_grows record_ turn)

-- a record with one more event, which may be added and was made by a share
pub keeps_added : (admits : EventRule) (seen record_ after : List EventData) (event : EventData) (old new : PublicationData) (number count count' : ℕ)
    → KeepsRecord admits record_ old count → MayAdd admits seen event → IsPrefix seen record_ → after ≡ record_ ++ event ∷ [] → IsLegal after
    → new.events ≡ after → HasMade number old new → IsShown new → count' ≡ count + 1 → KeepsRecord admits after new count'
keeps_added admits seen record_ after event old new number count count' kept may begins adds legal entered made shown counted =
    let longer : length after ≡ length record_ + 1 = omega (arith, ap (λ (l : List EventData). length l) adds, length-append record_ (event ∷ [])) in
    record {
      legal = legal;
      admitted = subst (λ (events : List EventData). AllAdmitted admits events) (sym adds) (added_admitted admits seen record_ event may begins kept.legal kept.admitted);
      entered = entered;
      made = keeps_made record_ after old new number kept.entered kept.made entered made (omega (arith, longer));
      counted = omega (arith, longer, kept.counted, counted);
      shown = shown;
    }

-- a record after a turn, whose event was made by a share
pub keeps_turn : (admits : EventRule) (record_ after : List EventData) (turn : TurnData) (old new : PublicationData) (number count count' : ℕ)
    → KeepsRecord admits record_ old count → after ≡ after_turn record_ turn → IsLegal after
    → new.events ≡ after → HasMade number old new → IsShown new → count' ≡ count + rise_of turn → KeepsRecord admits after new count'
keeps_turn admits record_ after turn old new number count count' kept is legal entered made shown counted =
    let longer : length after ≡ length record_ + rise_of turn = ap (λ (l : List EventData). length l) is ∙ turn_counts record_ turn in
    record {
      legal = legal;
      admitted = subst (λ (events : List EventData). AllAdmitted admits events) (sym is) (turn_admitted admits record_ turn kept.admitted);
      entered = entered;
      made = keeps_made record_ after old new number kept.entered kept.made entered made (omega (arith, longer));
      counted = omega (arith, longer, kept.counted, counted);
      shown = shown;
    }
