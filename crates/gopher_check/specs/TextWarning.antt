-- Mistakes in files that a tree serves: which there are, and of which file.
use Rattle.std.specs.Prelude.{◌≡◌, ℕ, ◌==◌, ◌||◌, Bool, List, [], ◌∷◌, codes, map, Option, None, Some, nat_eq, if◌then◌else◌}
use Rattle.std.specs.Cmp.Lexicographic.{pointwise}
use Rattle.std.specs.List.{ends_with, filter_map, list_any}
use Rattle.std.specs.Option.{option_and_then, option_map}
use Rattle.std.specs.Str.{is_utf8}
use Rattle.gopher_tree.specs.Files.{AreNodes, File}
use Rattle.gopher_tree.specs.Kind.{has_ending}
use Rattle.gopher_tree.specs.Reply.{Named, NamedFile, NamedFolder, named}
use Rattle.gopher_check.specs.declared.text_warning.TextMistake.{TextMistake}
use Rattle.gopher_check.specs.declared.text_warning.TextMistake.TheVariants as mistake

-- the path of a file, and what is wrong with it
pub record TextWarningData : Type 0 where
  pub path : List ℕ
  pub mistake : TextMistake

-- a menu of another server: its name is `gophermap`, or ends with `.gophermap`
abbrev pub is_foreign_menu : List ℕ → Bool
is_foreign_menu path =
    pointwise nat_eq path (codes "gophermap") || ends_with nat_eq path (codes "/gophermap")
    || has_ending (codes ".gophermap") path

-- endings of names of archives, documents, sounds, films, images, fonts and programs, which aren't
-- texts
abbrev pub raw_endings : List (List ℕ)
raw_endings =
    map codes
    (".zip" ∷ ".gz" ∷ ".tgz" ∷ ".bz2" ∷ ".xz" ∷ ".7z" ∷ ".rar" ∷ ".tar" ∷ ".jar" ∷ ".iso" ∷ ".img"
    ∷ ".exe" ∷ ".pdf" ∷ ".docx" ∷ ".odt" ∷ ".epub" ∷ ".mp3" ∷ ".ogg" ∷ ".flac" ∷ ".wav" ∷ ".mp4"
    ∷ ".webm" ∷ ".mov" ∷ ".avi" ∷ ".webp" ∷ ".bmp" ∷ ".tif" ∷ ".tiff" ∷ ".ico" ∷ ".woff" ∷ ".ttf"
    ∷ [])

abbrev pub has_ending_among : List (List ℕ) → List ℕ → Bool
has_ending_among endings path = list_any (λ ending. has_ending ending path) endings

-- the mistake in a file that is sent as a text
abbrev pub sent_text_mistake : List ℕ → List ℕ → Option TextMistake
sent_text_mistake path bytes =
    if has_ending_among raw_endings path then Some mistake.SentAsText
    else (if is_utf8 bytes then None else Some mistake.NotUtf8)

-- the mistake in a file of this type (48 is a text) that isn't a menu file: the first of them
abbrev pub file_mistake : List ℕ → ℕ → List ℕ → Option TextMistake
file_mistake path kind bytes =
    if is_foreign_menu path then Some mistake.ForeignMenu
    else (if kind == 48 then sent_text_mistake path bytes else None)

abbrev pub named_mistake : List ℕ → Named → Option TextMistake
named_mistake path (NamedFile kind bytes) = file_mistake path kind bytes
named_mistake path (NamedFolder folder) = None

-- the mistake in what the selector of a path names
abbrev pub path_mistake : List File → List ℕ → Option TextWarningData
path_mistake files path =
    option_map (λ found. record { path = path; mistake = found })
    (option_and_then (named_mistake path) (named files (47 ∷ path)))

-- the mistakes in what the selectors of these paths name
abbrev pub mistakes_at : List File → List (List ℕ) → List TextWarningData
mistakes_at files paths = filter_map (path_mistake files) paths

-- the mistakes in the files that aren't menu files, in the byte order of their paths
pub record AreTextMistakes (files : List File) (found : List TextWarningData) : Type 0 where
  pub paths : List (List ℕ)
  pub all : AreNodes files paths
  pub mistakes : found ≡ mistakes_at files paths
