use Rattle.std.proofs.Common.{◌≡◌, true, ◌||◌, sym, ap, ◌∙◌}
use Rattle.gopher_tree.specs.Path.{names_of, has_bad_name, is_bad_name}
use Rattle.gopher_tree.proofs.PathLemmas.{has_bad_name-more}
use Rattle.gopher_tree.proofs.tree.path.has_bad_name.Goals as goal

pub returns-then-is_bad_name : goal.returns-then-is_bad_name
returns-then-is_bad_name c =
    let name = c.in-Some.name.now in
    let after = c.in-Some.after.now in
    let more : has_bad_name (names_of c.loop-name.rest.now) ≡ (is_bad_name name || has_bad_name (names_of after)) = ap has_bad_name c.in-Some.ensures.parts ∙ has_bad_name-more name after in
    let bad : is_bad_name name ≡ true = sym c.if-is_bad_name.ensures in
    sym (sym c.loop-name.invariant ∙ more ∙ ap (λ b. b || has_bad_name (names_of after)) bad)
