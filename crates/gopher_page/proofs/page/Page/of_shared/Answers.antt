use Rattle.std.proofs.Common.{◌≡◌, ◌∙◌, false, eqb, ap, sym}
use Rattle.std.specs.Arc.{arc_value}
use Rattle.std.proofs.lemmas.Bool.{ne_eqb}
use Rattle.gopher_page.proofs.Pages.{page_of-text}
use Rattle.gopher_page.proofs.page.Page.of_shared.Goals as goal

pub returns-else-kind-eq49 : goal.returns-else-kind-eq49
returns-else-kind-eq49 c =
    let place = arc_value c.args.place.now in
    let other : eqb place.kind 49 ≡ false = ap (λ p. eqb p.kind 49) (sym c.deref.ensures) ∙ ap (λ k. eqb k 49) (sym c.kind.ensures) ∙ ne_eqb c.kind.result 49 c.if-kind-eq49.false in
    rw (page_of-text c.args.scope.now place c.args.bytes.now other) c.page_of_text.ensures
