-- The scripts of a site.
use Rattle.std.specs.Prelude.{◌≡◌, ℕ, ◌==◌, ◌&&◌, Bool, false, List, ◌∷◌, codes, filter, map, Option, Some, nat_eq}
use Rattle.std.specs.Borrow.{Bor}
use Rattle.std.specs.List.{starts_with}
use Rattle.gopher_tree.specs.Files.{AreNodes, File}
use Rattle.gopher_tree.specs.Reply.{Named, NamedFile, named}

-- a file of this type with these bytes is a text that begins with `#!`
abbrev pub is_script_named : Option Named → Bool
is_script_named (Some (NamedFile kind bytes)) =
    (kind == 48) && starts_with nat_eq bytes (codes "#!")
is_script_named named = false

-- the selector names a script
abbrev pub is_script : List File → List ℕ → Bool
is_script files selector = is_script_named (named files selector)

-- paths that a tree lends
abbrev pub lent_paths : List (Bor (List ℕ)) → List (List ℕ)
lent_paths paths = map (λ path. path.now) paths

-- those of these paths that are scripts
abbrev pub scripts_in : List File → List (List ℕ) → List (List ℕ)
scripts_in files paths = filter (λ path. is_script files (47 ∷ path)) paths

-- the paths of all scripts, in byte order
pub record AreScripts (files : List File) (found : List (List ℕ)) : Type 0 where
  pub paths : List (List ℕ)
  pub all : AreNodes files paths
  pub scripts : found ≡ scripts_in files paths
