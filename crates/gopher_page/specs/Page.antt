-- A page: what a catalogue keeps of a reply.
use Rattle.std.specs.Prelude.{◌≡◌, ℕ, ◌+◌, ◌*◌, Bool, List, [], ◌∷◌, length, take, map, filter, Option, None, MatchOption, ◌==◌, nat_lt, if◌then◌else◌}
use Rattle.std.specs.List.{filter_map, find, flat_map, sum_by}
use Rattle.std.specs.Int.{div_ceil}
use Rattle.std.specs.Option.{option_map_or}
use Rattle.std.specs.Arc.{arc_value}
use Rattle.std.specs.Borrow.{Bor}
use Rattle.std.specs.declared.sync.Arc.{Arc}
use Rattle.gopher_item.specs.Special.{is_control}
use Rattle.gopher_bytes.specs.Lines.{lines_of}
use Rattle.gopher_item.specs.Place.{PlaceData, same_place, distinct}
use Rattle.gopher_bytes.specs.Trim.{trim_spaces}
use Rattle.gopher_item.specs.MenuLine.{place_named}
use Rattle.gopher_item.specs.EntryParts.{entry_lent}
use Rattle.gopher_item.specs.Menu.{entries_of}
use Rattle.gopher_item.specs.declared.entry_parts.EntryParts.{EntryParts}
use Rattle.gopher_item.specs.declared.menu.Entry.{Entry}
use Rattle.gopher_item.specs.declared.menu.Entry.TheVariants.{Item, Odd}
use Rattle.gopher_item.specs.Places.{names_len}
use Rattle.gopher_item.specs.Scope.{ScopeData, allows}
use Rattle.gopher_page.specs.declared.title.TheConstants.{MAX_TITLE}
use Rattle.gopher_page.specs.Words.{words_of}
use Rattle.gopher_page.specs.Counts.{counts_of}
use Rattle.gopher_page.specs.Packed.{len_to_last}
use Rattle.gopher_text.specs.Text.{text_lines}
use Rattle.indexmap.specs.IndexSet.{insert_all}

-- a page as data
pub record PageData : Type 0 where
  pub place : PlaceData
  pub title : List ℕ
  pub links : List PlaceData
  pub counts : List (List ℕ × ℕ)

-- the number of bytes of the distinct words of a page
abbrev pub words_bytes : List (List ℕ × ℕ) → ℕ
words_bytes counts = sum_by (λ entry. length entry.0) counts

-- the distinct words of a large page have over 131,072 bytes
abbrev pub is_large : PageData → Bool
is_large page = nat_lt 131072 (words_bytes page.counts)

abbrev pub page_with : PlaceData → List ℕ → List PlaceData → List (List ℕ × ℕ) → PageData
page_with place title links counts =
    record { place = place; title = title; links = links; counts = counts }

-- the values in a list of shared values
abbrev pub held : {A Z : Type 0} → List (Arc A Z) → List A
held shared = map arc_value shared

-- the links of a page, which keeps a list only if it has any
abbrev pub links_kept : {Z : Type 0} → Option (Arc (List PlaceData) Z) → List PlaceData
links_kept links = option_map_or arc_value links []

-- the place that an entry of a menu names, if it names one
abbrev pub place_of_entry : Entry → Option PlaceData
place_of_entry (Item line) = place_named line
place_of_entry (Odd bytes) = None

-- the allowed places that entries name
abbrev pub allowed_places : ScopeData → List Entry → List PlaceData
allowed_places scope entries = filter (allows scope) (filter_map place_of_entry entries)

-- the links after more entries
abbrev pub with_links : ScopeData → List PlaceData → List Entry → List PlaceData
with_links scope links entries = insert_all same_place links (allowed_places scope entries)

-- the links after one more entry
abbrev pub with_entry : ScopeData → List PlaceData → EntryParts → List PlaceData
with_entry scope links entry = with_links scope links (entry_lent entry ∷ [])

-- the links after a menu
abbrev pub with_menu : ScopeData → List PlaceData → List ℕ → List PlaceData
with_menu scope links menu = with_links scope links (entries_of (lines_of menu))

-- the links of a menu: each allowed place once, in the order of first mention
abbrev pub menu_links : ScopeData → List ℕ → List PlaceData
menu_links scope bytes = distinct (allowed_places scope (entries_of (lines_of bytes)))

-- ---- lines

-- the line of a page for an entry of a menu
abbrev pub line_of_entry : Entry → List ℕ
line_of_entry (Item line) = line.display
line_of_entry (Odd bytes) = bytes

-- the lines of a directory's page: one for each entry of its menu
abbrev pub menu_page_lines : List ℕ → List (List ℕ)
menu_page_lines bytes = map line_of_entry (entries_of (lines_of bytes))

-- the lines of a reply's page: of a menu, or of a text
abbrev pub page_lines : Bool → List ℕ → List (List ℕ)
page_lines is_menu bytes = if is_menu then menu_page_lines bytes else text_lines bytes

-- the page of a reply has a first line, and the lines of the bytes after it; if nothing is given,
-- it has no lines
abbrev pub CutsPageLine : Bool → List ℕ → Option (Bor (List ℕ) × Bor (List ℕ)) → Type 0
CutsPageLine is_menu bytes given =
    MatchOption given (page_lines is_menu bytes ≡ [])
    (λ parts. page_lines is_menu bytes ≡ parts.0.now ∷ page_lines is_menu parts.1.now)

-- ---- title

-- a space for a control byte, and any other byte unchanged
abbrev pub plain_byte : ℕ → ℕ
plain_byte byte = if is_control byte then 32 else byte

-- the first 69 bytes of a text, after control bytes become spaces and spaces at both ends are
-- dropped; RFC 1436, section 3.9, asks for display strings under 70
abbrev pub title_text : List ℕ → List ℕ
title_text bytes = take MAX_TITLE (trim_spaces (map plain_byte bytes))

abbrev pub has_word : List ℕ → Bool
has_word line = nat_lt 0 (length (words_of line))

-- the title if no line contains a word: the selector, or the host if the selector leaves no title
abbrev pub place_title : PlaceData → List ℕ
place_title place =
    if length (title_text place.selector) == 0 then take MAX_TITLE place.host
    else title_text place.selector

-- the title: the first line that contains a word
abbrev pub title_of : PlaceData → List (List ℕ) → List ℕ
title_of place lines = option_map_or title_text (find has_word lines) (place_title place)

-- the page of a place with these lines and links; the counts cover the words of all lines
abbrev pub page_of_lines : PlaceData → List (List ℕ) → List PlaceData → PageData
page_of_lines place lines links =
    page_with place (title_of place lines) links (counts_of (flat_map words_of lines))

-- a page was made of these lines and links
abbrev pub IsOfLines : PlaceData → List (List ℕ) → List PlaceData → PageData → Type 0
IsOfLines place lines links page = page ≡ page_of_lines place lines links

-- the page of a directory
abbrev pub menu_page : ScopeData → PlaceData → List ℕ → PageData
menu_page scope place bytes =
    page_of_lines place (menu_page_lines bytes) (menu_links scope bytes)

-- the page of a file: its lines are those of its text, and it has no links
abbrev pub text_page : PlaceData → List ℕ → PageData
text_page place bytes = page_of_lines place (text_lines bytes) []

-- the page of a reply depends only on the scope, the place (type `1`, 49, is a directory) and the
-- bytes
unfoldable pub page_of : ScopeData → PlaceData → List ℕ → PageData
page_of scope place bytes =
    if place.kind == 49 then menu_page scope place bytes else text_page place bytes

-- ---- sizes: how many bytes a page counts for under a limit of memory

-- the ends of packed words: two bytes for each, or four if the words have 65,536 bytes or more
abbrev pub ends_size : ℕ → ℕ → ℕ
ends_size bytes count = if nat_lt bytes 65536 then 2 * count else 4 * count

-- packed words with their ends and counts: a count takes a byte, and two more up to the last count
-- of 256 or more
abbrev pub counts_size : List (List ℕ × ℕ) → ℕ
counts_size counts =
    words_bytes counts + ends_size (words_bytes counts) (length counts)
    + (length counts + 2 * len_to_last 256 (map (λ entry. entry.1) counts))

-- the postings of these words in an index: a posting counts at most 255 occurrences
abbrev pub postings_len : List (List ℕ × ℕ) → ℕ
postings_len counts = sum_by (λ entry. div_ceil entry.1 255) counts

-- the words of a page: the page and the index contain them, and the index has 8 bytes more for each
-- word and 3 for each posting; it doesn't copy the words of a large page
abbrev pub words_size : PageData → ℕ
words_size page =
    if is_large page then counts_size page.counts
    else 2 * counts_size page.counts + (8 * length page.counts + 3 * postings_len page.counts)

-- links: the page and the list of known places contain their selectors and hosts, and have 176
-- bytes more for each link
abbrev pub links_size : List PlaceData → ℕ
links_size links = 2 * names_len links + 176 * length links

-- a page: 512 bytes, its title, its words and its links
abbrev pub page_size : PageData → ℕ
page_size page = 512 + length page.title + words_size page + links_size page.links
