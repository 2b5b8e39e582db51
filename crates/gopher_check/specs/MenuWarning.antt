-- Mistakes in menu files: which there are, of which file and line.
use Rattle.std.specs.Prelude.{ℕ, ◌==◌, Bool, false, ◌&&◌, ◌||◌, not, List, [], ◌∷◌, ◌++◌, codes, Option, None, Some, nat_eq, is_some, if◌then◌else◌}
use Rattle.std.specs.List.{enumerate_from, filter_map, flat_map, list_any, starts_with}
use Rattle.std.specs.Option.{option_and_then, option_map}
use Rattle.memchr.specs.Find.{first_of, matches}
use Rattle.std.specs.Io.BufRead.{drop_through}
use Rattle.gopher_bytes.specs.Lines.{has_byte, lines_of}
use Rattle.gopher_item.specs.Place.{HomeData}
use Rattle.gopher_tree.specs.Files.{File, menu_files}
use Rattle.gopher_tree.specs.MenuFile.{WrittenLineData, written_line}
use Rattle.gopher_tree.specs.Reply.{Named, NamedFile, NamedFolder, named}
use Rattle.gopher_scope.specs.Lines.{is_asked, is_own, leads_to_search}
use Rattle.gopher_check.specs.declared.menu_warning.MenuMistake.{MenuMistake}
use Rattle.gopher_check.specs.declared.menu_warning.MenuMistake.TheVariants as mistake

-- a mistake in the menu file at a path: the number of its line, from 1, or 0 if it is one of the
-- whole file; and the selector of a line whose type is wrong
pub record MenuWarningData : Type 0 where
  pub path : List ℕ
  pub line : ℕ
  pub selector : List ℕ
  pub mistake : MenuMistake

-- ---- lines that were meant as links

-- the bytes contain these bytes, one after another
abbrev pub has_part : List ℕ → List ℕ → Bool
has_part part bytes = is_some (first_of (matches bytes part 0))

-- a digit, or one of the types `g`, `I`, `h`, `s`, `d`, `p` and `;`
abbrev pub begins_link : ℕ → Bool
begins_link byte = list_any (nat_eq byte) (codes "0123456789gIhsdp;")

-- bytes that can end a selector behind its first slash, in a line that is no drawing and no prose:
-- none is a blank, and the first is neither a slash nor a backslash (47, 92)
abbrev pub ends_selector : List ℕ → Bool
ends_selector [] = false
ends_selector (byte ∷ rest) =
    not ((byte == 47) || (byte == 92)) && not (has_byte 32 (byte ∷ rest))

-- two blanks are before a selector, which the bytes end with, or before an address
abbrev pub has_blanks : List ℕ → Bool
has_blanks bytes =
    (has_part (codes "  /") bytes && ends_selector (drop_through 47 bytes))
    || has_part (codes "  URL:") bytes

-- the line has no TAB, and blanks in its place: it was meant as a link, and clients show it as a
-- text
abbrev pub lacks_tab : List ℕ → Bool
lacks_tab [] = false
lacks_tab (byte ∷ rest) = begins_link byte && has_blanks rest && not (has_byte 9 (byte ∷ rest))

-- ---- types

-- clients read items of this type as bytes that they keep or play: archives (`5`), images (`g`,
-- `I`, `p`, `:`), sounds (`s`, `<`) and films (`;`)
abbrev pub is_raw_kind : ℕ → Bool
is_raw_kind kind = list_any (nat_eq kind) (codes "5gIp:s<;")

-- clients read items of this type as text: text (`0`), BinHex (`4`), uuencoded files (`6`) and HTML
-- (`h`)
abbrev pub is_text_kind : ℕ → Bool
is_text_kind kind = list_any (nat_eq kind) (codes "046h")

-- a client that asks for the first type misreads a file of the second: it reads the file as a menu
-- (`1`), a text (`0`, with a period at its end) as bytes, or bytes as a text
abbrev pub misreads : ℕ → ℕ → Bool
misreads kind of_file =
    (kind == 49) || (if of_file == 48 then is_raw_kind kind else is_text_kind kind)

-- the mistake in a line of this type that leads to a file or folder; only the search replies to
-- lines of type `7` (55)
abbrev pub type_mistake : ℕ → Named → Option MenuMistake
type_mistake kind (NamedFolder path) =
    if kind == 55 then Some mistake.NotSearch
    else (if kind == 49 then None else Some (mistake.WrongType 49))
type_mistake kind (NamedFile of_file bytes) =
    if kind == 55 then Some mistake.NotSearch
    else (if misreads kind of_file then Some (mistake.WrongType of_file) else None)

-- the mistake in a line with this type and selector that is of this server
abbrev pub own_mistake : List File → ℕ → List ℕ → Option MenuMistake
own_mistake files kind selector =
    if leads_to_search selector then (if kind == 55 then None else Some (mistake.WrongType 55))
    else option_and_then (type_mistake kind) (named files selector)

-- a client uses the line's type for what it gets from this server; a line of type `+` (43) has the
-- type of an earlier line (RFC 1436, section 3.8)
abbrev pub has_own_type : HomeData → WrittenLineData → Bool
has_own_type home line = is_asked line.kind && not (line.kind == 43) && is_own home line.server

-- the mistake in the type of a line, if it has one
abbrev pub typed_mistake : List File → HomeData → WrittenLineData → Option MenuMistake
typed_mistake files home line =
    if has_own_type home line then own_mistake files line.kind line.selector else None

-- ---- a menu file

-- the mistake in the type of the line with this number of the menu file at a path
abbrev pub written_mistake : List File → HomeData → List ℕ → ℕ → WrittenLineData
    → Option MenuWarningData
written_mistake files home path number line = option_map warned (typed_mistake files home line)
  where
    warned : MenuMistake → MenuWarningData
    warned found =
        record { path = path; line = number; selector = line.selector; mistake = found }

-- a mistake that isn't a line's type
abbrev pub plain_mistake : List ℕ → ℕ → MenuMistake → MenuWarningData
plain_mistake path number found =
    record { path = path; line = number; selector = []; mistake = found }

-- the mistake in the line with this number of the menu file at a path, if it has one
abbrev pub line_mistake : List File → HomeData → List ℕ → ℕ → List ℕ → Option MenuWarningData
line_mistake files home path number line =
    if lacks_tab line then Some (plain_mistake path number mistake.BlanksForTab)
    else option_and_then (written_mistake files home path number) (written_line line)

-- the mistakes in these lines, whose numbers begin at `number`
abbrev pub line_mistakes : List File → HomeData → List ℕ → ℕ → List (List ℕ)
    → List MenuWarningData
line_mistakes files home path number lines =
    filter_map (λ line. line_mistake files home path line.0 line.1) (enumerate_from number lines)

-- the mistakes in the lines of the menu file at a path
abbrev pub numbered_mistakes : List File → HomeData → List ℕ → List ℕ → List MenuWarningData
numbered_mistakes files home path menu = line_mistakes files home path 1 (lines_of menu)

-- the line leads somewhere: it is neither a text (`i`, 105) nor an error (`3`, 51)
abbrev pub leads : Option WrittenLineData → Bool
leads None = false
leads (Some line) = not (line.kind == 105) && not (line.kind == 51)

abbrev pub has_link : List ℕ → Bool
has_link menu = list_any (λ line. leads (written_line line)) (lines_of menu)

-- the bytes begin with a byte order mark
abbrev pub has_order_mark : List ℕ → Bool
has_order_mark menu = starts_with nat_eq menu (239 ∷ 187 ∷ 191 ∷ [])

-- the mistakes of a menu file that aren't those of one line
abbrev pub file_mistakes : List ℕ → List ℕ → List MenuWarningData
file_mistakes path menu =
    (if has_link menu then [] else plain_mistake path 0 mistake.NoLink ∷ [])
    ++ (if has_order_mark menu then plain_mistake path 1 mistake.ByteOrderMark ∷ [] else [])

-- the mistakes in a menu file, by line
abbrev pub menu_mistakes : List File → HomeData → File → List MenuWarningData
menu_mistakes files home menu =
    file_mistakes menu.0 menu.1 ++ numbered_mistakes files home menu.0 menu.1

-- the mistakes in these menu files
abbrev pub warned_in : List File → HomeData → List File → List MenuWarningData
warned_in files home menus = flat_map (menu_mistakes files home) menus

-- the mistakes in all menu files, in their order
abbrev pub all_menu_mistakes : List File → HomeData → List MenuWarningData
all_menu_mistakes files home = warned_in files home (menu_files files)
