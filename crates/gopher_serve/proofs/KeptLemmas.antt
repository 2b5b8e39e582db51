-- Kept replies, and the reply to a selector without a kept one.
use Rattle.std.proofs.Common.{◌≡◌, ℕ, ◌<◌, false, cond, eqb, List, [], ◌∷◌, length, Option, None, Some, refl, sym, ap, ◌∙◌, arith}
use Rattle.gopher_item.specs.Place.{HomeData}
use Rattle.gopher_bytes.specs.Lines.{lines_of}
use Rattle.gopher_text.specs.Text.{text_bytes}
use Rattle.gopher_tree.specs.Files.{File}
use Rattle.gopher_tree.specs.Reply.{Named, NamedFile, NamedFolder, named, reply_to, tree_reply, not_found_bytes}
use Rattle.gopher_tree.specs.Found.{Shows}
use Rattle.gopher_tree.specs.declared.tree.Node.TheVariants as node
use Rattle.std.specs.Borrow.{Bor}

-- the two selectors of the root have one reply
pub reply_root : (selector : List ℕ) → length selector < 1 → (files : List File) (home : HomeData) → tree_reply files home (47 ∷ []) ≡ tree_reply files home selector
unfolding tree_reply
reply_root [] empty files home = refl
reply_root (byte ∷ selector) empty files home = absurd (omega arith)

pub reply_of_none : (files : List File) (home : HomeData) (selector : List ℕ) → Shows (named files selector) None → tree_reply files home selector ≡ not_found_bytes home
unfolding tree_reply
reply_of_none files home selector shows = by (named files selector) shows
  where
    by : (found : Option Named) → Shows found None → reply_to files home found ≡ not_found_bytes home
    by None shows = refl
    by (Some (NamedFile kind bytes)) shows = absurd shows
    by (Some (NamedFolder path)) shows = absurd shows

-- the reply to a file of a type other than `0` (48)
pub reply_of_file : (files : List File) (home : HomeData) (selector : List ℕ) (kind : ℕ) (bytes : Bor (List ℕ)) → Shows (named files selector) (Some (node.File kind bytes)) → eqb kind 48 ≡ false → tree_reply files home selector ≡ bytes.now
unfolding tree_reply
reply_of_file files home selector kind bytes shows other = by (named files selector) shows
  where
    by : (found : Option Named) → Shows found (Some (node.File kind bytes)) → reply_to files home found ≡ bytes.now
    by None shows = absurd shows
    by (Some (NamedFile of_kind held)) shows = ap (λ t. cond t (text_bytes (lines_of held)) held) (ap (λ k. eqb k 48) (sym shows.0) ∙ other) ∙ sym shows.1
    by (Some (NamedFolder path)) shows = absurd shows
