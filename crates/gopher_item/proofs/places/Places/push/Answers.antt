use Rattle.std.proofs.Common.{◌++◌, ◌∷◌, [], ap, ◌∙◌}
use Rattle.std.proofs.lemmas.Option.{slice_get_within}
use Rattle.gopher_item.specs.Places.{unpacked}
use Rattle.gopher_item.specs.declared.places.Row.{Row}
use Rattle.gopher_item.proofs.PackedPlaces.{AreRows-more, AreRows-push, unpacked-more, unpacked-push, with_host, err_keeps}
use Rattle.gopher_item.proofs.places.Places.push.Goals as goal

pub returns-in_err-host-clause-refused : goal.returns-in_err-host-clause-refused
returns-in_err-host-clause-refused c =
    err_keeps _
    (ap (unpacked c.index_of.new.hosts c.self.inside.selectors) c.reserve.ensures.items
    ∙ unpacked-more c.self.inside.hosts c.index_of.new.hosts c.self.inside.selectors c.self.inside.rows.items c.self.invariant c.index_of.ensures.more ∙ c.self.view_is)

pub invariant_of-self-in_err-push : goal.invariant_of-self-in_err-push
invariant_of-self-in_err-push c =
    rw (c.in_err-push.ensures.refused, c.reserve.ensures.items) (AreRows-more c.self.inside.hosts c.index_of.new.hosts c.self.inside.selectors c.self.inside.rows.items c.self.invariant c.index_of.ensures.more)

pub returns-in_err-push-clause-refused : goal.returns-in_err-push-clause-refused
returns-in_err-push-clause-refused c =
    err_keeps _
    (ap (λ selectors. unpacked c.index_of.new.hosts selectors c.reserve.new.self.items) c.in_err-push.ensures.refused
    ∙ ap (unpacked c.index_of.new.hosts c.self.inside.selectors) c.reserve.ensures.items
    ∙ unpacked-more c.self.inside.hosts c.index_of.new.hosts c.self.inside.selectors c.self.inside.rows.items c.self.invariant c.index_of.ensures.more ∙ c.self.view_is)

pub invariant_of-self-2 : goal.invariant_of-self-2
invariant_of-self-2 c =
    let within = slice_get_within c.index_of.new.hosts c.in_ok-host.host c.host.result.now c.in_ok-host.ensures.there in
    rw (c.in_ok-push.ensures.added, c.push_reserved.ensures.items, c.reserve.ensures.items)
    (AreRows-push c.self.inside.hosts c.index_of.new.hosts c.self.inside.selectors c.self.inside.rows.items c.self.invariant c.index_of.ensures.more c.selector.result.now _ within)

pub returns-clause-added : goal.returns-clause-added
returns-clause-added c =
    let row : Row = record { host = c.in_ok-host.host; port = c.port-port.result; kind = c.kind-kind.result } in
    ap (λ selectors. unpacked c.index_of.new.hosts selectors c.push_reserved.new.self.items) c.in_ok-push.ensures.added
    ∙ ap (unpacked c.index_of.new.hosts (c.self.inside.selectors ++ c.selector.result.now ∷ [])) (c.push_reserved.ensures.items ∙ ap (λ rows. rows ++ row ∷ []) c.reserve.ensures.items)
    ∙ unpacked-push c.self.inside.hosts c.index_of.new.hosts c.self.inside.selectors c.self.inside.rows.items c.self.invariant c.index_of.ensures.more c.host.result.now c.selector.result.now row c.in_ok-host.ensures.there
    ∙ ap (λ places. places ++ with_host row c.selector.result.now c.host.result.now ∷ []) c.self.view_is
    ∙ (λ i. c.args.self.now ++ record { host = c.host.ensures i; port = c.port-port.ensures i; selector = c.selector.ensures i; kind = c.kind-kind.ensures i } ∷ [])
