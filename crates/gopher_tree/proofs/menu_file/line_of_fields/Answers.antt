use Rattle.std.proofs.Common.{sym, ap, ◌∷◌, ◌∙◌}
use Rattle.gopher_tree.specs.MenuFile.{line_of_fields}
use Rattle.gopher_tree.proofs.MenuFileLemmas.{line_of_fields-untyped, line_of_fields-many}
use Rattle.gopher_tree.proofs.menu_file.line_of_fields.Goals as goal

pub returns-in_default : goal.returns-in_default
returns-in_default c = sym (line_of_fields-untyped c.args.first.now c.args.rest.now c.in_default.len_below)

pub returns-in-Some-split_once : goal.returns-in-Some-split_once
returns-in-Some-split_once c =
    let first = c.args.first.now in
    let selector = c.in-Some.selector.now in
    let host = c.in_ok-host.host.now in
    let fields = c.in-Some.ensures.parts ∙ ap (λ fs. selector ∷ fs) c.in_ok-host.ensures.parts ∙ ap (λ fs. selector ∷ host ∷ fs) c.in-Some-split_once.ensures.parts in
    sym (ap (λ fs. line_of_fields (first ∷ fs)) fields ∙ line_of_fields-many first selector host c.in-Some-split_once.field-0.0.now c.in-Some-split_once.field-0.1.now)
