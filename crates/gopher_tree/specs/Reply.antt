-- The reply of a tree to a selector (RFC 1436, section 2; folders as menus are this profile's).
use Rattle.std.specs.Prelude.{◌≡◌, ℕ, length, ◌==◌, List, [], ◌∷◌, ◌++◌, codes, map, Option, None, Some, Result, IfOk, OnOk, if◌then◌else◌}
use Rattle.std.specs.List.{flat_map}
use Rattle.std.specs.Option.{option_and_then, option_map}
use Rattle.std.specs.declared.vec.Vec.{Vec}
use Rattle.gopher_bytes.specs.Lines.{lines_of}
use Rattle.gopher_item.specs.MenuLine.{MenuLineData, menu_line_bytes, menu_line_of, menu_bytes}
use Rattle.gopher_item.specs.Place.{HomeData}
use Rattle.gopher_text.specs.Text.{text_bytes}
use Rattle.gopher_tree.specs.Path.{is_menu_path, prefix_of, path_of, menu_path}
use Rattle.gopher_tree.specs.Kind.{kind_of}
use Rattle.gopher_tree.specs.MenuFile.{written_menu}
use Rattle.gopher_tree.specs.Files.{File, Child, file_at, is_folder, children}

-- a call that succeeds appends the bytes of this menu line to a reply
abbrev pub PutsLine : {A T E : Type 0} → MenuLineData → Vec ℕ A → Vec ℕ A → Result T E → Type 0
PutsLine line old new result = OnOk result (new.items ≡ old.items ++ menu_line_bytes line)

-- a call that succeeds appends the bytes of these menu lines to a reply
abbrev pub PutsLines : {A T E : Type 0} → List MenuLineData → Vec ℕ A → Vec ℕ A → Result T E
    → Type 0
PutsLines lines old new result =
    OnOk result (new.items ≡ old.items ++ flat_map menu_line_bytes lines)

-- a call that succeeds returns the menu of these lines
abbrev pub MakesMenu : {A E : Type 0} → List MenuLineData → Result (Vec ℕ A) E → Type 0
MakesMenu lines result = IfOk result (λ menu. menu.items ≡ menu_bytes lines)

-- the file or folder that a selector names
pub data Named : Type 0 where
  NamedFile : (kind : ℕ) (bytes : List ℕ) → Named
  NamedFolder : (path : List ℕ) → Named

-- the file with the path, unless its name is `.menu`; without a file, the folder at the path
abbrev pub named_by : List File → List ℕ → Option File → Option Named
named_by files path (Some file) =
    if is_menu_path path then None else Some (NamedFile (kind_of file.0 file.1) file.1)
named_by files path None = if is_folder files path then Some (NamedFolder path) else None

abbrev pub named_at : List File → Option (List ℕ) → Option Named
named_at files path = option_and_then (λ p. named_by files p (file_at files p)) path

abbrev pub named : List File → List ℕ → Option Named
named files selector = named_at files (path_of selector)

-- the line of a name in a folder; `front` comes before the name in its selector
abbrev pub child_line : HomeData → List ℕ → Child → MenuLineData
child_line home front child =
    menu_line_of child.1 child.0 (front ++ child.0) home.host home.port

abbrev pub child_lines : HomeData → List ℕ → List Child → List MenuLineData
child_lines home front names = map (child_line home front) names

-- the line of the search, of type `7` (55; RFC 1436, section 3.8)
abbrev pub search_line : HomeData → MenuLineData
search_line home = menu_line_of 55 (codes "Search") (codes "/search") home.host home.port

-- the root's menu begins with the search line
abbrev pub head_lines : HomeData → List ℕ → List MenuLineData
head_lines home folder = if length folder == 0 then search_line home ∷ [] else []

abbrev pub listing_of : HomeData → List ℕ → List Child → List MenuLineData
listing_of home folder names =
    head_lines home folder ++ child_lines home (47 ∷ prefix_of folder) names

-- the bytes of a folder's own menu file, if it has one
abbrev pub menu_file : List File → List ℕ → Option (List ℕ)
menu_file files folder = option_map (λ file. file.1) (file_at files (menu_path folder))

-- the menu of a folder: its menu file or, without one, its listing
abbrev pub folder_menu : List File → HomeData → List ℕ → Option (List ℕ) → List MenuLineData
folder_menu files home folder (Some written) = written_menu home written
folder_menu files home folder None = listing_of home folder (children files folder)

abbrev pub folder_reply : List File → HomeData → List ℕ → List ℕ
folder_reply files home folder = menu_bytes (folder_menu files home folder (menu_file files folder))

-- a file of type `0` (48) is sent as a text, any other byte for byte (RFC 1436, appendix)
abbrev pub file_reply : ℕ → List ℕ → List ℕ
file_reply kind bytes = if kind == 48 then text_bytes (lines_of bytes) else bytes

-- a menu of one line of type `3` (51; RFC 1436, section 3.8), whose text a client shows as an error
abbrev pub error_bytes : List ℕ → HomeData → List ℕ
error_bytes text home = menu_bytes (menu_line_of 51 text [] home.host home.port ∷ [])

abbrev pub not_found_bytes : HomeData → List ℕ
not_found_bytes home = error_bytes (codes "Not found") home

abbrev pub reply_to : List File → HomeData → Option Named → List ℕ
reply_to files home (Some (NamedFile kind bytes)) = file_reply kind bytes
reply_to files home (Some (NamedFolder folder)) = folder_reply files home folder
reply_to files home None = not_found_bytes home

-- the reply to a selector depends on the list of files, the server's address and the selector alone
unfoldable pub tree_reply : List File → HomeData → List ℕ → List ℕ
tree_reply files home selector = reply_to files home (named files selector)
