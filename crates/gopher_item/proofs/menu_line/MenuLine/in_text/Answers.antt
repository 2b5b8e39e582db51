use Rattle.std.proofs.Common.{◌∷◌, sym, subst, arith}
use Rattle.std.specs.Arc.{arc_value}
use Rattle.gopher_item.specs.MenuLine.{IsMenuLine, StandsAt, tabbed}
use Rattle.gopher_item.proofs.MenuLines.{are_cuts, line_in-cuts_of, within}
use Rattle.gopher_item.proofs.menu_line.MenuLine.in_text.Goals as goal

pub overflow_add-selector_end-2 : goal.overflow_add-selector_end-2
overflow_add-selector_end-2 c = let all = within c.args.kind c.args.start c.args.display.now c.args.selector.now c.args.host.now _ c.requires.stands in grind arith

pub overflow_add-result : goal.overflow_add-result
overflow_add-result c = let all = within c.args.kind c.args.start c.args.display.now c.args.selector.now c.args.host.now _ c.requires.stands in grind arith

pub overflow_add-result-2 : goal.overflow_add-result-2
overflow_add-result-2 c = let all = within c.args.kind c.args.start c.args.display.now c.args.selector.now c.args.host.now _ c.requires.stands in grind arith

pub invariant_of-result : goal.invariant_of-result
invariant_of-result c =
    let display = c.args.display.now in
    let selector = c.args.selector.now in
    let host = c.args.host.now in
    let stands : StandsAt (arc_value c.in_ok-text.text) c.args.start (tabbed (c.args.kind ∷ display) selector host) =
    subst (λ t. StandsAt t c.args.start (tabbed (c.args.kind ∷ display) selector host)) (sym c.in_ok-text.ensures) c.requires.stands in (
      are_cuts c.args.kind c.args.start display selector host (arc_value c.in_ok-text.text) stands,
      subst IsMenuLine (sym (line_in-cuts_of c.args.kind c.args.port c.args.start display selector host (arc_value c.in_ok-text.text) stands)) c.requires.fields,
    )

pub returns : goal.returns
returns c =
    let display = c.args.display.now in
    let selector = c.args.selector.now in
    let host = c.args.host.now in
    let stands : StandsAt (arc_value c.in_ok-text.text) c.args.start (tabbed (c.args.kind ∷ display) selector host) =
    subst (λ t. StandsAt t c.args.start (tabbed (c.args.kind ∷ display) selector host)) (sym c.in_ok-text.ensures) c.requires.stands in
    line_in-cuts_of c.args.kind c.args.port c.args.start display selector host (arc_value c.in_ok-text.text) stands
