-- The reply to a selector from the node that it names.
use Rattle.std.proofs.Common.{◌≡◌, ℕ, Bool, true, false, cond, List, Option, None, Some, refl, sym, ap, subst, ◌∙◌}
use Rattle.gopher_item.specs.Place.{HomeData}
use Rattle.gopher_tree.specs.Path.{is_menu_path, path_of}
use Rattle.gopher_tree.specs.Kind.{kind_of}
use Rattle.gopher_tree.specs.Files.{File, file_at, is_folder, is_path_among, nodes}
use Rattle.gopher_tree.specs.Reply.{Named, NamedFile, NamedFolder, named_by, named_at, file_reply, folder_reply, not_found_bytes, reply_to, tree_reply}
use Rattle.gopher_tree.specs.Found.{Shows}
use Rattle.gopher_tree.specs.declared.tree.Node.{Node}
use Rattle.gopher_tree.specs.declared.tree.Node.TheVariants as node
use Rattle.gopher_tree.proofs.EntryLemmas.{folder_is}

-- the selector has no path
pub reply-no_path : (files : List File) (home : HomeData) (selector : List ℕ) → path_of selector ≡ None → not_found_bytes home ≡ tree_reply files home selector
unfolding tree_reply
reply-no_path files home selector none = ap (λ p. reply_to files home (named_at files p)) (sym none)

-- the reply of a node at a path
abbrev pub node_reply : List File → HomeData → List ℕ → Option Node → List ℕ
node_reply files home path (Some (node.File kind bytes)) = file_reply kind bytes.now
node_reply files home path (Some node.Folder) = folder_reply files home path
node_reply files home path None = not_found_bytes home

-- the only folder that a path names is its own
own_path : (files : List File) (path other : List ℕ) (found : Option File) → named_by files path found ≡ Some (NamedFolder other) → path ≡ other
own_path files path other (Some file) h = by (is_menu_path path) h
  where
    by : (t : Bool) → cond {A = Option Named} t None (Some (NamedFile (kind_of file.0 file.1) file.1)) ≡ Some (NamedFolder other) → path ≡ other
    by true k = absurd cc
    by false k = absurd cc
own_path files path other None h = by (is_folder files path) h
  where
    by : (t : Bool) → cond {A = Option Named} t (Some (NamedFolder path)) None ≡ Some (NamedFolder other) → path ≡ other
    by true k = cc
    by false k = absurd cc

pub reply_at : (files : List File) (home : HomeData) (selector path : List ℕ) (shown : Option Node) → path_of selector ≡ Some path
    → Shows (named_by files path (file_at files path)) shown → node_reply files home path shown ≡ tree_reply files home selector
unfolding tree_reply
reply_at files home selector path shown path_is shows =
    by (named_by files path (file_at files path)) shown (λ other. own_path files path other (file_at files path)) shows ∙ ap (λ p. reply_to files home (named_at files p)) (sym path_is)
  where
    by : (named : Option Named) (seen : Option Node) → ((other : List ℕ) → named ≡ Some (NamedFolder other) → path ≡ other) → Shows named seen → node_reply files home path seen ≡ reply_to files home named
    by None None own h = refl
    by None (Some seen) own h = absurd h
    by (Some (NamedFile kind bytes)) (Some (node.File of_kind held)) own h = ap (λ k. file_reply k held.now) h.0 ∙ ap (file_reply kind) h.1
    by (Some (NamedFile kind bytes)) (Some node.Folder) own h = absurd h
    by (Some (NamedFile kind bytes)) None own h = absurd h
    by (Some (NamedFolder other)) (Some node.Folder) own h = ap (folder_reply files home) (own other refl)
    by (Some (NamedFolder other)) (Some (node.File of_kind held)) own h = absurd h
    by (Some (NamedFolder other)) None own h = absurd h

-- the node at a path without a file
pub shows_folder : (files : List File) (path : List ℕ) → file_at files path ≡ None → is_path_among (nodes files) path ≡ true → Shows (named_by files path (file_at files path)) (Some node.Folder)
shows_folder files path none there =
    subst (λ found. Shows (named_by files path found) (Some node.Folder)) (sym none)
    (subst (λ t. Shows (cond {A = Option Named} t (Some (NamedFolder path)) None) (Some node.Folder)) (sym there ∙ folder_is files path none) tt)

pub shows_none : (files : List File) (path : List ℕ) → file_at files path ≡ None → is_path_among (nodes files) path ≡ false → Shows (named_by files path (file_at files path)) None
shows_none files path none other =
    subst (λ found. Shows (named_by files path found) None) (sym none)
    (subst (λ t. Shows (cond {A = Option Named} t (Some (NamedFolder path)) None) None) (sym other ∙ folder_is files path none) tt)
