use Rattle.std.proofs.Common.{◌∷◌, sym, ap, ◌∙◌}
use Rattle.gopher_hole.specs.Aliases.{two_fields}
use Rattle.gopher_hole.proofs.AliasLemmas.{two_fields-many}
use Rattle.gopher_hole.proofs.aliases.two_fields.Goals as goal

pub returns-in-Some : goal.returns-in-Some
returns-in-Some c =
    let first = c.in_ok-first.first.now in
    let fields = c.in_ok-first.ensures.parts ∙ ap (λ fs. first ∷ fs) c.in-Some.ensures.parts in
    sym (ap two_fields fields ∙ two_fields-many first c.in-Some.field-0.0.now c.in-Some.field-0.1.now)
