use Rattle.std.proofs.Common.{◌≡◌, Option, None, Some, cond, rules, sym, ap, ◌∙◌}
use Rattle.gopher_tree.specs.Path.{rest_after}
use Rattle.gopher_tree.specs.Kind.{kind_of}
use Rattle.gopher_tree.specs.Files.{Child, child_of, child_of_rest}
use Rattle.gopher_tree.proofs.PathLemmas.{child_of-more}
use Rattle.gopher_tree.proofs.tree.selector.child_after.Goals as goal

pub returns-in-Some : goal.returns-in-Some
returns-in-Some c =
    let kind = kind_of c.args.file.now.0 c.args.file.now.1 in
    let rest : rest_after c.args.prefix.now c.args.file.now.0 ≡ Some c.in_ok-rest.rest.now = search rules in
    sym (ap (child_of_rest c.args.file.now) rest ∙ ap (child_of kind) c.in-Some.ensures.parts ∙ child_of-more kind c.in-Some.name.now c.in-Some.field-0-1.now)

pub returns-in-None-2 : goal.returns-in-None-2
returns-in-None-2 c =
    let name = c.in_ok-rest.rest.now in
    let kind = kind_of c.args.file.now.0 c.args.file.now.1 in
    let rest : rest_after c.args.prefix.now c.args.file.now.0 ≡ Some name = search rules in
    sym (ap (child_of_rest c.args.file.now) rest ∙ ap (child_of kind) c.in-None-2.ensures.parts ∙ ap (λ t. cond {A = Option Child} t None (Some (name, kind))) (sym c.if-is_menu_name.ensures) ∙ ap (λ k. Some (name, k)) (sym c.kind.ensures))
