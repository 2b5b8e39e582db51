use Rattle.std.proofs.Common.{filter, arith, refl, ap, sym, subst, ◌∙◌}
use Rattle.gopher_item.specs.Scope.{allows}
use Rattle.gopher_catalogue.specs.declared.fault.FoundFault.TheVariants.{NotOut, WrongPlace, NoMemory}
use Rattle.gopher_catalogue.specs.Step.{is_place_at, found_fault, added_by}
use Rattle.gopher_catalogue.specs.FrontierTables.{Learned}
use Rattle.gopher_catalogue.specs.History.{opening_in}
use Rattle.gopher_catalogue.specs.Indexed.{IsIndexed}
use Rattle.gopher_catalogue.proofs.IndexedCalls.{learned_of, some_out, is_refused, fault_not_out, fault_wrong, fault_none, still_out, unlearned, added_shown, after_found}
use Rattle.gopher_catalogue.proofs.catalogue.Catalogue.found.Goals as goal

-- ---- failing

pub returns-then-not-is_out-clause-fault : goal.returns-then-not-is_out-clause-fault
returns-then-not-is_out-clause-fault c =
    is_refused c.self.inside.archive c.self.inside.frontier c.self.invariant c.args.number c.args.page.place _ c.self.view_is _ NotOut
    (fault_not_out c.self.inside.archive c.self.inside.frontier c.self.invariant c.args.number c.args.page.place (sym c.if-not-is_out.ensures)) refl

pub returns-then-not-has_place-clause-fault : goal.returns-then-not-has_place-clause-fault
returns-then-not-has_place-clause-fault c =
    let wrong = ap (λ place. is_place_at c.self.inside.frontier.known.places c.args.number place) (sym c.place.ensures) ∙ sym c.if-not-has_place.ensures in
    is_refused c.self.inside.archive c.self.inside.frontier c.self.invariant c.args.number c.args.page.place _ c.self.view_is _ WrongPlace
    (fault_wrong c.self.inside.archive c.self.inside.frontier c.self.invariant c.args.number (sym c.if-not-is_out.ensures) c.args.page.place wrong) refl

pub returns-in_default-clause-fault : goal.returns-in_default-clause-fault
returns-in_default-clause-fault c =
    let right = ap (λ place. is_place_at c.self.inside.frontier.known.places c.args.number place) (sym c.place.ensures) ∙ sym c.if-not-has_place.ensures in
    is_refused c.self.inside.archive c.self.inside.frontier c.self.invariant c.args.number c.args.page.place _ c.self.view_is _ NoMemory
    (fault_none c.self.inside.archive c.self.inside.frontier c.self.invariant c.args.number (sym c.if-not-is_out.ensures) c.args.page.place right) refl

pub returns-in-Err-clause-fault : goal.returns-in-Err-clause-fault
returns-in-Err-clause-fault c =
    let right = ap (λ place. is_place_at c.self.inside.frontier.known.places c.args.number place) (sym c.place.ensures) ∙ sym c.if-not-has_place.ensures in
    is_refused c.self.inside.archive c.self.inside.frontier c.self.invariant c.args.number c.args.page.place _ c.self.view_is _ NoMemory
    (fault_none c.self.inside.archive c.self.inside.frontier c.self.invariant c.args.number (sym c.if-not-is_out.ensures) c.args.page.place right) refl

-- the effect of the page's links on the frontier
learned : (c : goal.After-found-arg-1) → Learned (filter (allows (opening_in c.self.inside.archive.events).scope) c.args.page.links) c.self.inside.frontier c.learn.new.self c.in-Ok.added.dropped
learned c = learned_of _ _ _ _ _ _ (c.scope-scope.ensures ∙ ap (λ o. o.scope) (c.deref.ensures ∙ c.opening.ensures)) c.in-Ok.ensures.ok.learned

pub invariant_of-self-in-Err : goal.invariant_of-self-in-Err
invariant_of-self-in-Err c =
    let learned : Learned (filter (allows (opening_in c.self.inside.archive.events).scope) c.args.page.links) c.self.inside.frontier c.learn.new.self c.in-Ok.added.dropped =
    learned_of _ _ _ _ _ _ (c.scope-scope.ensures ∙ ap (λ o. o.scope) (c.deref.ensures ∙ c.opening.ensures)) c.in-Ok.ensures.ok.learned in
    let back = c.forget.ensures ∙ unlearned c.self.inside.archive c.self.inside.frontier c.self.invariant c.learn.new.self c.args.number c.args.page c.in-Ok.added learned in
    subst (λ f. IsIndexed c.add_found.new.self f) (sym back) (subst (λ a. IsIndexed a c.self.inside.frontier) (sym c.in-Err.ensures.err) c.self.invariant)

-- ---- the calls

pub found-requires : goal.found-requires
found-requires c =
    record { out = still_out c.self.inside.archive c.self.inside.frontier c.self.invariant c.learn.new.self c.args.number c.args.page c.in-Ok.added (learned c) (sym c.if-not-is_out.ensures) }

pub add_found-requires : goal.add_found-requires
add_found-requires c = omega (arith, some_out c.self.inside.archive c.self.inside.frontier c.self.invariant c.args.number (sym c.if-not-is_out.ensures), c.self.invariant.record_room)

-- ---- found

found : (c : goal.After-found) → IsIndexed c.add_found.new.self c.found.new.self
found c =
    let learned : Learned (filter (allows (opening_in c.self.inside.archive.events).scope) c.args.page.links) c.self.inside.frontier c.learn.new.self c.in-Ok.added.dropped =
    learned_of _ _ _ _ _ _ (c.scope-scope.ensures ∙ ap (λ o. o.scope) (c.deref.ensures ∙ c.opening.ensures)) c.in-Ok.ensures.ok.learned in
    let right = ap (λ place. is_place_at c.self.inside.frontier.known.places c.args.number place) (sym c.place.ensures) ∙ sym c.if-not-has_place.ensures in
    after_found c.self.inside.archive c.self.inside.frontier c.self.invariant c.learn.new.self c.args.number c.args.page c.in-Ok.added learned c.add_found.new.self c.found.new.self (sym c.if-not-is_out.ensures) right c.found.ensures c.in-Ok-add_found.ensures.ok.events
    c.in-Ok-add_found.ensures.ok.room

pub invariant_of-self-in-Ok-add_found : goal.invariant_of-self-in-Ok-add_found
invariant_of-self-in-Ok-add_found c = found c

pub returns-in-Ok-add_found-clause-ok : goal.returns-in-Ok-add_found-clause-ok
returns-in-Ok-add_found-clause-ok c =
    let right = ap (λ place. is_place_at c.self.inside.frontier.known.places c.args.number place) (sym c.place.ensures) ∙ sym c.if-not-has_place.ensures in
    ap (λ events. found_fault events c.args.number c.args.page.place) (sym c.self.view_is)
    ∙ fault_none c.self.inside.archive c.self.inside.frontier c.self.invariant c.args.number (sym c.if-not-is_out.ensures) c.args.page.place right

pub returns-in-Ok-add_found-clause-added : goal.returns-in-Ok-add_found-clause-added
returns-in-Ok-add_found-clause-added c =
    let learned : Learned (filter (allows (opening_in c.self.inside.archive.events).scope) c.args.page.links) c.self.inside.frontier c.learn.new.self c.in-Ok.added.dropped =
    learned_of _ _ _ _ _ _ (c.scope-scope.ensures ∙ ap (λ o. o.scope) (c.deref.ensures ∙ c.opening.ensures)) c.in-Ok.ensures.ok.learned in
    added_shown c.self.inside.archive c.self.inside.frontier c.self.invariant c.learn.new.self c.args.number c.args.page c.in-Ok.added learned c.in-Ok.ensures.ok.fresh ∙ ap (λ events. added_by events c.args.number c.args.page) c.self.view_is

pub returns-in-Ok-add_found-clause-legal : goal.returns-in-Ok-add_found-clause-legal
returns-in-Ok-add_found-clause-legal c = (found c).legal
