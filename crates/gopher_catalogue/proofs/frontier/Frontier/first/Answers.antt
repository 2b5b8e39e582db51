use Rattle.std.proofs.Common.{length, slice_get, arith, ap, sym, ◌∙◌}
use Rattle.std.specs.Arc.{arc_value}
use Rattle.std.proofs.lemmas.List.{length-map}
use Rattle.gopher_catalogue.proofs.Lists.{slice_get_shown}
use Rattle.gopher_catalogue.proofs.Consistent.{first_place}
use Rattle.gopher_catalogue.proofs.frontier.Frontier.first.Goals as goal

pub bounds-as_slice-number : goal.bounds-as_slice-number
bounds-as_slice-number c =
    omega (arith, first_place _ _ c.self.invariant c.in_ok-number.number (sym c.in_ok-number.ensures), ap length c.as_slice.ensures, length-map c.as_slice.result.now arc_value)

pub returns : goal.returns
returns c =
    let number = sym c.in_ok-number.ensures in
    let within = first_place _ _ c.self.invariant c.in_ok-number.number number in
    let place = slice_get_shown arc_value c.as_slice.result.now c.self.inside.known.places c.in_ok-number.number c.index-as_slice-number.result c.as_slice.ensures within c.index-as_slice-number.is in
    (ap (λ f. slice_get f.waiting 0) (sym c.self.view_is) ∙ number, ap (λ f. slice_get f.known.places c.in_ok-number.number) (sym c.self.view_is) ∙ place)
