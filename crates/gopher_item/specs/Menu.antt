-- A menu, read from bytes (RFC 1436, section 2, and appendix: Menu; odd lines are this profile's).
use Rattle.std.specs.Prelude.{◌≡◌, ℕ, Bool, true, false, ◌||◌, not, List, [], ◌∷◌, ◌++◌, length, map, filter, Option, None, MatchOption, ◌==◌, if◌then◌else◌}
use Rattle.std.specs.Borrow.{Bor}
use Rattle.std.specs.List.{list_any, slice_split}
use Rattle.std.specs.Option.{option_map, option_map_or}
use Rattle.gopher_bytes.specs.Lines.{any_last_line, lines_before_last, lines_of}
use Rattle.gopher_bytes.specs.Number.{number_of}
use Rattle.gopher_bytes.specs.Trim.{trim_spaces}
use Rattle.gopher_item.specs.MenuLine.{MenuLineData, StandsAt, tabbed, menu_line_of}
use Rattle.gopher_item.specs.declared.limits.TheConstants.{MAX_PORT}
use Rattle.gopher_item.specs.declared.menu.Entry.{Entry}
use Rattle.gopher_item.specs.declared.menu.Entry.TheVariants.{Item, Odd}

-- the fields of a line: the pieces between TABs
abbrev pub fields_of : List ℕ → List (List ℕ)
fields_of line = slice_split (λ byte. byte == 9) line

-- the first field of the bytes, and the bytes after its TAB, if there is a TAB
abbrev pub SplitsField : List ℕ → Bor (List ℕ) × Option (Bor (List ℕ)) → Type 0
SplitsField bytes parts =
    MatchOption parts.1 (fields_of bytes ≡ parts.0.now ∷ [])
    (λ rest. fields_of bytes ≡ parts.0.now ∷ fields_of rest.now)

-- the item with these four fields, if the first isn't empty and the port is a number of at most
-- 65535
abbrev pub item_of_fields : List ℕ → List ℕ → List ℕ → List ℕ → Option MenuLineData
item_of_fields [] selector host port = None
item_of_fields (kind ∷ display) selector host port =
    option_map (λ number. menu_line_of kind display selector (trim_spaces host) number)
    (number_of MAX_PORT (trim_spaces port))

-- the item of a list of fields; fields after the fourth are ignored
abbrev pub item_of_list : List (List ℕ) → Option MenuLineData
item_of_list (first ∷ selector ∷ host ∷ port ∷ more) = item_of_fields first selector host port
item_of_list _ = None

-- the bytes contain a CR or a NUL
abbrev pub has_return_or_nul : List ℕ → Bool
has_return_or_nul line = list_any (λ byte. (byte == 13) || (byte == 0)) line

-- the item of a line; a line that contains a CR or a NUL is none
abbrev pub item_of : List ℕ → Option MenuLineData
item_of line = if has_return_or_nul line then None else item_of_list (fields_of line)

-- the bytes are a field, a TAB and the rest; the field contains no CR and no NUL
pub record BeginsWithField (bytes first rest : List ℕ) : Type 0 where
  pub whole : bytes ≡ first ++ 9 ∷ rest
  pub fields : fields_of bytes ≡ first ∷ fields_of rest
  pub plain : has_return_or_nul bytes ≡ has_return_or_nul rest

-- the first field of the bytes, which contains no CR and no NUL, and the bytes after its TAB, if
-- there is a TAB; no field only if the bytes contain a CR or a NUL
abbrev pub SplitsPlainField : List ℕ → Option (Bor (List ℕ) × Option (Bor (List ℕ))) → Type 0
SplitsPlainField bytes result =
    MatchOption result (has_return_or_nul bytes ≡ true)
    (λ parts. MatchOption parts.1
    ((fields_of bytes ≡ parts.0.now ∷ []) × (has_return_or_nul bytes ≡ false))
    (λ rest. BeginsWithField bytes parts.0.now rest.now))

-- the first field of bytes that contain no CR and no NUL
pub record HasFirstField (bytes first : List ℕ) : Type 0 where
  pub more : List (List ℕ)
  pub fields : fields_of bytes ≡ first ∷ more
  pub plain : has_return_or_nul bytes ≡ false

-- the first field of the bytes; none exactly if they contain a CR or a NUL
abbrev pub FindsFirstField : List ℕ → Option (Bor (List ℕ)) → Type 0
FindsFirstField bytes result =
    MatchOption result (has_return_or_nul bytes ≡ true)
    (λ first. HasFirstField bytes first.now)

-- the first four fields of a line that contains no CR and no NUL
pub record HasFields (line first selector host port : List ℕ) : Type 0 where
  pub plain : has_return_or_nul line ≡ false
  pub more : List (List ℕ)
  pub fields : fields_of line ≡ first ∷ selector ∷ host ∷ port ∷ more
  pub stands : StandsAt line 0 (tabbed first selector host)

-- the first four fields of the line, without CR and NUL; none only if the line has no item
abbrev pub FindsFourFields : List ℕ
    → Option (Bor (List ℕ) × Bor (List ℕ) × Bor (List ℕ) × Bor (List ℕ)) → Type 0
FindsFourFields line result =
    MatchOption result (item_of line ≡ None)
    (λ f. HasFields line f.0.now f.1.now f.2.now f.3.now)

-- the first of the fields
abbrev pub first_field : List (List ℕ) → List ℕ
first_field [] = []
first_field (first ∷ more) = first

-- the entry of a line: its item or, for an odd line, its first field
abbrev pub entry_of : List ℕ → Entry
entry_of line = option_map_or Item (item_of line) (Odd (first_field (fields_of line)))

-- the entries of lines, up to the last line; empty lines are skipped
abbrev pub entries_of : List (List ℕ) → List Entry
entries_of lines = map entry_of (filter (λ line. not (length line == 0)) (lines_before_last lines))

-- the result of reading a menu: its entries, and whether a single period ended it
pub record ReadsMenu (bytes : List ℕ) (entries : List Entry) (ended : Bool) : Type 0 where
  pub all_entries : entries ≡ entries_of (lines_of bytes)
  pub is_ended : ended ≡ any_last_line (lines_of bytes)
