use Rattle.std.proofs.Common.{◌≡◌, ◌+◌, ◌++◌, ◌∷◌, [], None, Some, length, sym, ap, subst, ◌∙◌, arith}
use Rattle.gopher_tree.specs.Path.{folders_of}
use Rattle.gopher_tree.specs.Fault.{file_fault}
use Rattle.gopher_tree.specs.Tree.{IsTree, SetsEntry, AddsFolders}
use Rattle.gopher_tree.proofs.EntryLemmas.{IsTree-push}
use Rattle.gopher_tree.proofs.tree.Tree.add.Goals as goal

pub invariant_of-tree : goal.invariant_of-tree
invariant_of-tree c =
    let path = c.args.path.items in
    let bytes = c.args.bytes.items in
    let files = c.tree.inside.files.items in
    let old = c.tree.inside.nodes in
    let middle = c.add_folders.new.nodes in
    let new = c.put.new.nodes in
    let none : file_fault files (path, bytes) ≡ None = ap (λ l. file_fault l (path, bytes)) c.tree.view_is ∙ c.requires in
    let items : c.push.new.self.items ≡ files ++ (path, bytes) ∷ [] = c.in_ok-push.ensures.items ∙ ap (λ f. files ++ f ∷ []) c.new.ensures in
    let number : c.len.result ≡ length files = omega arith in
    let size : c.len-2.result ≡ length bytes = omega arith in
    let added : AddsFolders old middle (folders_of path) = subst (λ p. AddsFolders old middle (folders_of p)) c.deref.ensures.value c.in_ok-add_folders.ensures in
    let set : SetsEntry middle new path (Some (length files)) = subst (λ n. SetsEntry middle new path (Some n)) number (subst (λ p. SetsEntry middle new p (Some c.len.result)) c.deref-2.ensures.value c.in_ok-put.ensures) in
    subst (λ l. IsTree l new (c.tree.inside.bytes + c.len-2.result)) (sym items)
    (subst (λ n. IsTree (files ++ (path, bytes) ∷ []) new (c.tree.inside.bytes + n)) (sym size) (IsTree-push files (path, bytes) old middle new c.tree.inside.bytes none c.tree.invariant added set))
