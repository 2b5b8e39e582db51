use Rattle.std.proofs.Common.{◌≡◌, ◌+◌, ◌≤◌, [], ◌∷◌, ◌++◌, Some, slice_get, arith, ap, sym, subst, ◌∙◌}
use Rattle.std.specs.Arc.{arc_value}
use Rattle.gopher_catalogue.specs.Event.{Claimed}
use Rattle.gopher_catalogue.specs.Step.{turn_of, after_turn, Take}
use Rattle.gopher_catalogue.specs.Turn.{IsTake}
use Rattle.gopher_catalogue.specs.Indexed.{IsIndexed}
use Rattle.gopher_catalogue.proofs.IndexedCalls.{on_err, none_waits_finished, none_waits_idle, first_turn, first_due, after_claimed}
use Rattle.gopher_catalogue.proofs.catalogue.Catalogue.claim.Goals as goal

pub returns-then-out-eq0-clause-turn : goal.returns-then-out-eq0-clause-turn
returns-then-out-eq0-clause-turn c =
    sym (none_waits_finished c.self.inside.archive c.self.inside.frontier c.self.invariant (ap (λ l. slice_get l 0) c.in_default.ensures) (sym (ap (λ s. s.out) c.status-out.ensures) ∙ c.if-out-eq0.true)) ∙ ap turn_of c.self.view_is

pub returns-then-out-eq0-clause-after : goal.returns-then-out-eq0-clause-after
returns-then-out-eq0-clause-after c =
    sym (ap (after_turn c.args.self.now) (ap turn_of (sym c.self.view_is) ∙ none_waits_finished c.self.inside.archive c.self.inside.frontier c.self.invariant (ap (λ l. slice_get l 0) c.in_default.ensures) (sym (ap (λ s. s.out) c.status-out.ensures) ∙ c.if-out-eq0.true)))

pub returns-in_default-clause-turn : goal.returns-in_default-clause-turn
returns-in_default-clause-turn c =
    sym (none_waits_idle c.self.inside.archive c.self.inside.frontier c.self.invariant (ap (λ l. slice_get l 0) c.in_default.ensures) (λ none. c.if-out-eq0.false (ap (λ s. s.out) c.status-out.ensures ∙ none))) ∙ ap turn_of c.self.view_is

pub returns-in_default-clause-after : goal.returns-in_default-clause-after
returns-in_default-clause-after c =
    sym (ap (after_turn c.args.self.now) (ap turn_of (sym c.self.view_is) ∙ none_waits_idle c.self.inside.archive c.self.inside.frontier c.self.invariant (ap (λ l. slice_get l 0) c.in_default.ensures) (λ none. c.if-out-eq0.false (ap (λ s. s.out) c.status-out.ensures ∙ none))))

pub returns-in_err-place-clause-due : goal.returns-in_err-place-clause-due
returns-in_err-place-clause-due c =
    let number = c.in-Some.ensures.0 in
    let same = c.in-Some.number-is in
    let first : slice_get c.self.inside.frontier.waiting 0 ≡ Some c.in-Some.number = cc in
    on_err c.from_residual.result (IsTake (turn_of c.args.self.now)) (subst (λ events. IsTake (turn_of events)) c.self.view_is (first_due c.self.inside.archive c.self.inside.frontier c.self.invariant c.in-Some.number first))

pub returns-in_err-reserve-clause-due : goal.returns-in_err-reserve-clause-due
returns-in_err-reserve-clause-due c =
    let number = c.in-Some.ensures.0 in
    let same = c.in-Some.number-is in
    let first : slice_get c.self.inside.frontier.waiting 0 ≡ Some c.in-Some.number = cc in
    on_err c.from_residual-in_err-reserve.result (IsTake (turn_of c.args.self.now)) (subst (λ events. IsTake (turn_of events)) c.self.view_is (first_due c.self.inside.archive c.self.inside.frontier c.self.invariant c.in-Some.number first))

pub returns-in_err-claim-clause-due : goal.returns-in_err-claim-clause-due
returns-in_err-claim-clause-due c =
    let number = c.in-Some.ensures.0 in
    let same = c.in-Some.number-is in
    let first : slice_get c.self.inside.frontier.waiting 0 ≡ Some c.in-Some.number = cc in
    on_err c.from_residual-in_err-claim.result (IsTake (turn_of c.args.self.now)) (subst (λ events. IsTake (turn_of events)) c.self.view_is (first_due c.self.inside.archive c.self.inside.frontier c.self.invariant c.in-Some.number first))

claimed : (c : goal.After-push) → IsIndexed c.push.new.self c.claim.new.self
claimed c =
    let number = c.in-Some.ensures.0 in
    let same = c.in-Some.number-is in
    let first : slice_get c.self.inside.frontier.waiting 0 ≡ Some c.in-Some.number = cc in
    let room : c.self.inside.frontier.out + 2 ≤ c.reserve.new.self.room = omega (arith, c.in_ok-reserve.ensures.ok, ap (λ s. s.out) c.status-out.ensures) in
    after_claimed c.self.inside.archive c.self.inside.frontier c.self.invariant c.reserve.new.self c.push.new.self c.claim.new.self c.in-Some.number first c.in_ok-reserve.ensures.events room c.in_ok-claim.ensures.ok c.push.ensures.events c.push.ensures.room

turn_taken : (c : goal.After-push) → turn_of c.args.self.now ≡ Take c.in-Some.number (arc_value c.in_ok-place.place)
turn_taken c =
    let number = c.in-Some.ensures.0 in
    let placed = c.in-Some.ensures.1 in
    let same = c.in-Some.number-is in
    let same_place = c.in-Some.place-is in
    let copied = c.in_ok-place.ensures.cases in
    let first : slice_get c.self.inside.frontier.waiting 0 ≡ Some c.in-Some.number = cc in
    let place : slice_get c.self.inside.frontier.known.places c.in-Some.number ≡ Some (arc_value c.in_ok-place.place) = cc in
    ap turn_of (sym c.self.view_is) ∙ first_turn c.self.inside.archive c.self.inside.frontier c.self.invariant c.in-Some.number first (arc_value c.in_ok-place.place) place

pub invariant_of-self-2 : goal.invariant_of-self-2
invariant_of-self-2 c = claimed c

pub returns-clause-turn : goal.returns-clause-turn
returns-clause-turn c = sym (turn_taken c)

pub returns-clause-after : goal.returns-clause-after
returns-clause-after c =
    c.push.ensures.events ∙ ap (λ events. events ++ Claimed c.in-Some.number ∷ []) (c.in_ok-reserve.ensures.events ∙ c.self.view_is) ∙ sym (ap (after_turn c.args.self.now) (turn_taken c))

pub returns-clause-legal : goal.returns-clause-legal
returns-clause-legal c = (claimed c).legal
