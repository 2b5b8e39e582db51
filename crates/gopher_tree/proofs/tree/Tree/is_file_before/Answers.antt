use Rattle.std.proofs.Common.{◌&&◌, is_some, take, sym, ap, ◌∙◌, eq-eqb}
use Rattle.gopher_tree.specs.Files.{is_file}
use Rattle.gopher_tree.proofs.EntryLemmas.{found_is_file, copied_is_some}
use Rattle.gopher_tree.proofs.tree.Tree.is_file_before.Goals as goal

pub returns-then-path-place-eq47 : goal.returns-then-path-place-eq47
returns-then-path-place-eq47 c =
    let files = c.args.self.now in
    let path = take c.args.place c.args.path.now in
    c.is_some.ensures ∙ copied_is_some c.file_at.result ∙ ap is_some c.file_at.ensures ∙ found_is_file files path ∙ ap (λ t. t && is_file files path) (sym (eq-eqb _ _ c.if-path-place-eq47.true))
