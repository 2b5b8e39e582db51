-- A `.menu` file: the menu of its folder. The format is this profile's.
use Rattle.std.specs.Prelude.{ℕ, ◌+◌, Bool, not, List, [], ◌∷◌, codes, map, Option, None, Some, is_some, if◌then◌else◌, ◌≡◌}
use Rattle.std.specs.List.{filter_map}
use Rattle.std.specs.Option.{option_and_then, option_map}
use Rattle.gopher_bytes.specs.Lines.{lines_of}
use Rattle.gopher_item.specs.Menu.{fields_of}
use Rattle.gopher_bytes.specs.Trim.{trim_spaces}
use Rattle.gopher_item.specs.MenuLine.{MenuLineData, menu_line_fault, menu_line_of}
use Rattle.gopher_bytes.specs.Number.{number_of}
use Rattle.gopher_item.specs.Place.{HomeData, is_host}
use Rattle.std.specs.Borrow.{Bor}
use Rattle.gopher_tree.specs.declared.menu_file.WrittenLine.{WrittenLine}

-- a line of the file; a line without a server is of the server that sends the file
pub record WrittenLineData : Type 0 where
  pub kind : ℕ
  pub display : List ℕ
  pub selector : List ℕ
  pub server : Option HomeData

-- a menu line can have these parts, together with a valid host
abbrev pub is_item : ℕ → List ℕ → List ℕ → Bool
is_item kind display selector = not (is_some (menu_line_fault kind display selector (codes "host")))

abbrev pub written_item : ℕ → List ℕ → List ℕ → Option HomeData → Option WrittenLineData
written_item kind display selector server =
    if is_item kind display selector
    then Some (record { kind = kind; display = display; selector = selector; server = server })
    else None

-- the server of a host and a port, if the host is valid
abbrev pub server_at : List ℕ → ℕ → Option HomeData
server_at host port = if is_host host then Some (record { host = host; port = port }) else None

-- the server of a host and a port, after spaces at their ends are dropped
abbrev pub server_of : List ℕ → List ℕ → Option HomeData
server_of host port =
    option_and_then (server_at (trim_spaces host)) (number_of 65535 (trim_spaces port))

-- a text alone is an `i` line; of several fields, the first is the type and the display string
abbrev pub line_of_fields : List (List ℕ) → Option WrittenLineData
line_of_fields (text ∷ []) = written_item 105 text [] None
line_of_fields ((kind ∷ display) ∷ selector ∷ []) = written_item kind display selector None
line_of_fields ((kind ∷ display) ∷ selector ∷ host ∷ port ∷ []) =
    option_and_then (λ server. written_item kind display selector (Some server))
    (server_of host port)
line_of_fields _ = None

abbrev pub written_line : List ℕ → Option WrittenLineData
written_line line = line_of_fields (fields_of line)

-- the number, counted on from `number`, of the first line with none of these forms
abbrev pub bad_line_from : ℕ → List (List ℕ) → Option ℕ
bad_line_from number [] = None
bad_line_from number (line ∷ lines) =
    if is_some (written_line line) then bad_line_from (number + 1) lines else Some number

abbrev pub bad_line : List ℕ → Option ℕ
bad_line bytes = bad_line_from 1 (lines_of bytes)

-- the line that a server with the address `home` sends
abbrev pub sent_line : HomeData → WrittenLineData → MenuLineData
sent_line home line = at line.server
  where
    at : Option HomeData → MenuLineData
    at None = menu_line_of line.kind line.display line.selector home.host home.port
    at (Some server) =
        menu_line_of line.kind line.display line.selector server.host server.port

abbrev pub written_menu : HomeData → List ℕ → List MenuLineData
written_menu home bytes = map (sent_line home) (filter_map written_line (lines_of bytes))

abbrev pub server_data : Option (Bor (List ℕ) × ℕ) → Option HomeData
server_data server = option_map (λ s. record { host = s.0.now; port = s.1 }) server

abbrev pub line_data : WrittenLine → WrittenLineData
line_data line =
    record {
      kind = line.kind;
      display = line.display.now;
      selector = line.selector.now;
      server = server_data line.server;
    }

-- a call returns this line, or `None` if there is none
abbrev pub Gives : Option WrittenLineData → Option WrittenLine → Type 0
Gives wanted line = option_map line_data line ≡ wanted
