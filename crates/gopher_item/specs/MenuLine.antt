-- One item of a menu (RFC 1436, section 2, and appendix: DirEntity).
use Rattle.std.specs.Prelude.{◌≡◌, ℕ, ◌+◌, ◌^◌, ◌<◌, ◌≤◌, Bool, false, ◌||◌, ◌&&◌, not, nat_eq, List, ◌∷◌, ◌++◌, codes, length, drop, slice_range, Option, None, Some, is_some, Result, OnOk, ◌==◌, if◌then◌else◌}
use Rattle.std.specs.List.{flat_map}
use Rattle.std.specs.Arc.{arc_value}
use Rattle.std.specs.Borrow.{Bor}
use Rattle.std.specs.Fmt.{decimal}
use Rattle.std.specs.Global.{Vec}
use Rattle.std.specs.Cmp.Lexicographic.{pointwise}
use Rattle.std.specs.declared.sync.Arc.{Arc}
use Rattle.gopher_bytes.specs.Trim.{trim_spaces}
use Rattle.gopher_item.specs.Fault.{Makes}
use Rattle.gopher_item.specs.Special.{is_special, is_control, has_special}
use Rattle.gopher_item.specs.Place.{PlaceData, is_host, is_selector, place_fault, place_of}
use Rattle.gopher_item.specs.declared.fault.ItemFault.{ItemFault}
use Rattle.gopher_item.specs.declared.fault.ItemFault.TheVariants.{BadSelector, BadHost, BadDisplay, BadType}

-- a menu line as data
pub record MenuLineData : Type 0 where
  pub kind : ℕ
  pub display : List ℕ
  pub selector : List ℕ
  pub host : List ℕ
  pub port : ℕ

-- the menu line of these five parts
abbrev pub menu_line_of : ℕ → List ℕ → List ℕ → List ℕ → ℕ → MenuLineData
menu_line_of kind display selector host port =
    record { kind = kind; display = display; selector = selector; host = host; port = port }

-- two menu lines have the same parts
abbrev pub same_line : MenuLineData → MenuLineData → Bool
same_line a b =
    (a.kind == b.kind) && pointwise nat_eq a.display b.display
    && pointwise nat_eq a.selector b.selector && pointwise nat_eq a.host b.host
    && (a.port == b.port)

-- every menu line, read or made: no field contains a special byte, and the host has no space at its
-- ends
pub record IsMenuLine (line : MenuLineData) : Type 0 where
  pub kind : is_special line.kind ≡ false
  pub display : has_special line.display ≡ false
  pub selector : has_special line.selector ≡ false
  pub host : has_special line.host ≡ false
  pub host_trimmed : trim_spaces line.host ≡ line.host
  pub port : line.port < 2 ^ 16

-- with any port of 16 bits these are the parts of a menu line
abbrev pub IsMenuLineWithAnyPort : ℕ → List ℕ → List ℕ → List ℕ → Type 0
IsMenuLineWithAnyPort kind display selector host =
    (port : ℕ) → port < 2 ^ 16 → IsMenuLine (menu_line_of kind display selector host port)

-- the positions of a menu line's fields in a text: the display string, the selector and the host,
-- one byte apart
pub record Cuts : Type 0 where
  pub start : ℕ
  pub display_end : ℕ
  pub selector_end : ℕ
  pub end : ℕ

abbrev pub cuts_at : ℕ → ℕ → ℕ → ℕ → Cuts
cuts_at start display_end selector_end end =
    record { start = start; display_end = display_end; selector_end = selector_end; end = end }

-- no field ends before its start, and the last one ends within the text
pub record AreCuts (cuts : Cuts) (text : List ℕ) : Type 0 where
  pub display : cuts.start ≤ cuts.display_end
  pub selector : cuts.display_end + 1 ≤ cuts.selector_end
  pub host : cuts.selector_end + 1 ≤ cuts.end
  pub within : cuts.end ≤ length text

-- the menu line with the fields at these positions
abbrev pub line_in : ℕ → ℕ → Cuts → List ℕ → MenuLineData
line_in kind port cuts text = record {
  kind = kind;
  display = slice_range text cuts.start cuts.display_end;
  selector = slice_range text (cuts.display_end + 1) cuts.selector_end;
  host = slice_range text (cuts.selector_end + 1) cuts.end;
  port = port;
}

-- the fields at these positions are those of a menu line
abbrev pub AreCutsOfLine : ℕ → ℕ → Cuts → List ℕ → Type 0
AreCutsOfLine kind port cuts text = AreCuts cuts text × IsMenuLine (line_in kind port cuts text)

-- the text contains the bytes at `start`
abbrev pub StandsAt : List ℕ → ℕ → List ℕ → Type 0
StandsAt text start bytes = (after : List ℕ) × (drop start text ≡ bytes ++ after)

-- three fields with a TAB between them
abbrev pub tabbed : List ℕ → List ℕ → List ℕ → List ℕ
tabbed display selector host = display ++ 9 ∷ (selector ++ 9 ∷ host)

-- at `start` the shared text contains a type, and three fields with a TAB between them
abbrev pub FieldsStandAt : {Z : Type 0} → Arc (List ℕ) Z → ℕ → ℕ → List ℕ → List ℕ → List ℕ
    → Type 0
FieldsStandAt text start kind display selector host =
    StandsAt (arc_value text) start (tabbed (kind ∷ display) selector host)

-- the bytes of these parts in sequence
abbrev pub in_sequence : List (Bor (List ℕ)) → List ℕ
in_sequence parts = flat_map (λ part. part.now) parts

-- the bytes of the end of a menu line: TAB, host, TAB, port, CR LF
abbrev pub server_bytes : List ℕ → ℕ → List ℕ
server_bytes host port = 9 ∷ (host ++ 9 ∷ (decimal port ++ codes "\r\n"))

-- the bytes of a menu line: type, display, TAB, selector, TAB, host, TAB, port, CR LF (RFC 1436,
-- appendix: DirEntity)
abbrev pub menu_line_bytes : MenuLineData → List ℕ
menu_line_bytes line =
    line.kind ∷ line.display ++ 9 ∷ line.selector ++ server_bytes line.host line.port

-- a call that succeeds appends the menu line of an item with these five parts
abbrev pub PutsItem : {T E : Type 0} → ℕ → List ℕ → List ℕ → List ℕ → ℕ → Vec ℕ → Vec ℕ
    → Result T E → Type 0
PutsItem kind display selector host port old new result =
    OnOk result
    (new.items ≡ old.items ++ menu_line_bytes (menu_line_of kind display selector host port))

-- the bytes of a menu: its lines, and a single period (RFC 1436, appendix: Menu)
abbrev pub menu_bytes : List MenuLineData → List ℕ
menu_bytes lines = flat_map menu_line_bytes lines ++ codes ".\r\n"

-- a type of no line that is made: a control byte, a space or a period
abbrev pub is_bad_type : ℕ → Bool
is_bad_type kind = is_control kind || (kind == 32) || (kind == 46)

-- the first fault of the parts of a line that is made, if they have one; a port of 0 is valid
abbrev pub menu_line_fault : ℕ → List ℕ → List ℕ → List ℕ → Option ItemFault
menu_line_fault kind display selector host =
    if not (is_selector selector) then Some BadSelector else
    (if not (is_host host) then Some BadHost else
    (if has_special display then Some BadDisplay else
    (if is_bad_type kind then Some BadType else None)))

-- making the menu line of these parts fails with their first fault, returns the line, or is out of
-- memory
abbrev pub MakesMenuLine : ℕ → List ℕ → List ℕ → List ℕ → ℕ → Result MenuLineData ItemFault
    → Type 0
MakesMenuLine kind display selector host port result =
    Makes (menu_line_fault kind display selector host)
    (menu_line_of kind display selector host port) result

-- the place that a menu line names, if it names one
abbrev pub place_named : MenuLineData → Option PlaceData
place_named line =
    if is_some (place_fault line.kind line.selector line.host line.port) then None else
    Some (place_of line.kind line.selector line.host line.port)
