use Rattle.std.proofs.Common.{◌≡◌, false, is_some, sym, subst, ◌∙◌}
use Rattle.gopher_hole.specs.Aliases.{AddsAlias, held_for}
use Rattle.gopher_hole.proofs.AliasLemmas.{adds_new}
use Rattle.gopher_hole.proofs.aliases.add.Goals as goal

pub returns : goal.returns
returns c =
    let before = c.args.held.now in let after = c.insert.new.self in let key = c.in_ok-from_slice.field-0.items in
    let fresh = subst (λ old. is_some (held_for before old) ≡ false) (sym c.in_ok-from_slice.ensures.items) (sym c.contains_key.ensures ∙ c.if-contains_key.false) in
    let added = adds_new key before after c.in_ok-selector.selector fresh c.in_ok-insert.ensures.updates in
    subst (λ selector. AddsAlias before after c.args.old.now selector) c.in_ok-selector.ensures
    (subst (λ old. AddsAlias before after old c.in_ok-selector.selector) c.in_ok-from_slice.ensures.items added)
