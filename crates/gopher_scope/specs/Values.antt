-- The fault of the value of a key, if it has one, and else the value that is read.
use Rattle.std.specs.Prelude.{ℕ, List, [], ◌∷◌, length, Option, None, Some, ℤ, pos, negsuc, ◌&&◌, is_some, unwrap_or, nat_le, if◌then◌else◌}
use Rattle.gopher_scope.specs.declared.settings.key.Key.{Key}
use Rattle.gopher_scope.specs.declared.settings.key.Key.TheVariants as key
use Rattle.gopher_scope.specs.declared.settings.tables.Field.{Field}
use Rattle.gopher_scope.specs.declared.settings.tables.Field.TheVariants as field
use Rattle.gopher_scope.specs.declared.settings.row.Form.{Form}
use Rattle.gopher_scope.specs.declared.settings.row.Form.TheVariants.{Integer, Text, Tables}
use Rattle.gopher_scope.specs.declared.settings.tables.Element.{Element}
use Rattle.gopher_scope.specs.declared.settings.tables.Element.TheVariants as element
use Rattle.gopher_scope.specs.declared.settings.row.TextKind.{TextKind}
use Rattle.std.specs.List.{enumerate_from}
use Rattle.std.specs.Option.{option_or, option_map, option_map_or}
use Rattle.toml.specs.Data.{Data, Items, no_items, item, Members, get_member, as_integer, as_str, as_array, as_table}
use Rattle.gopher_scope.specs.declared.settings.tables.Spot.{Spot}
use Rattle.gopher_scope.specs.declared.settings.row.Problem.{Problem}
use Rattle.gopher_scope.specs.declared.settings.row.Problem.TheVariants.{Missing, WrongKind, OutOfRange}
use Rattle.gopher_scope.specs.Rows.{RowData, key_row, element_fields, field_row, absent_text, is_in_range}

-- the first result, if there is one
abbrev pub first_of : {A B : Type 0} → (A → Option B) → List A → Option B
first_of answer [] = None
first_of answer (x ∷ xs) = option_or (answer x) (first_of answer xs)

-- the value has to be an integer from 1 to `most`
abbrev pub integer_problem : ℕ → Option ℤ → Option Problem
integer_problem most None = Some WrongKind
integer_problem most (Some (pos number)) =
    if nat_le 1 number && nat_le number most then None else Some OutOfRange
integer_problem most (Some (negsuc number)) = Some OutOfRange

-- the value has to be a text of this kind
abbrev pub text_problem : TextKind → Option (List ℕ) → Option Problem
text_problem kind None = Some WrongKind
text_problem kind (Some text) = if is_in_range kind text then None else Some OutOfRange

-- the fault of a value that isn't an array of tables, if it has one
abbrev pub scalar_problem : Form → Option Data → Option Problem
scalar_problem (Integer absent most) None = None
scalar_problem (Integer absent most) (Some value) = integer_problem most (as_integer value)
scalar_problem (Text kind) None = if is_some (absent_text kind) then None else Some Missing
scalar_problem (Text kind) (Some value) = text_problem kind (as_str value)
scalar_problem (Tables element) value = None

abbrev pub elements : Items → List Data
elements no_items = []
elements (item value more) = value ∷ elements more

-- the value of the key of a row
abbrev pub value_at : Members → RowData → Option Data
value_at table row = get_member row.0 table

abbrev pub key_value : Members → Key → Option Data
key_value table key = value_at table (key_row key)

abbrev pub field_problem : Members → Field → Option Problem
field_problem table field = scalar_problem (field_row field).1 (value_at table (field_row field))

-- an element that isn't a table has the wrong type; the keys of a table are checked in order
abbrev pub table_problem : Element → Option Members → Option Problem
table_problem element None = Some WrongKind
table_problem element (Some table) = first_of (field_problem table) (element_fields element)

abbrev pub element_problem : Element → Data → Option Problem
element_problem element value = table_problem element (as_table value)

-- the value has to be an array of at most 256 tables
abbrev pub array_problem : Element → Option Items → Option Problem
array_problem element None = Some WrongKind
array_problem element (Some items) =
    if nat_le (length (elements items)) 256 then first_of (element_problem element) (elements items)
    else Some OutOfRange

-- the fault of a key's value, if it has one
abbrev pub form_problem : Form → Option Data → Option Problem
form_problem (Tables element) (Some value) = array_problem element (as_array value)
form_problem form value = scalar_problem form value

-- the key, if its value in a table has a fault
abbrev pub faulty : Members → Field → Option Field
faulty table field = option_map (λ problem. field) (field_problem table field)

-- the first key of a table with a fault, in order; none if the element isn't a table
abbrev pub faulty_field : Element → Option Members → Option Field
faulty_field element None = None
faulty_field element (Some table) = first_of (faulty table) (element_fields element)

-- where the fault of an element with its index is, if it has one
abbrev pub spot_at : Element → ℕ × Data → Option Spot
spot_at element (index, value) =
    option_map (λ problem. record { index = index; field = faulty_field element (as_table value) })
    (element_problem element value)

-- where the fault of the first element with a fault is, by its index from 0
abbrev pub first_spot : Element → List Data → Option Spot
first_spot element values = first_of (spot_at element) (enumerate_from 0 values)

-- where in an array of at most 256 tables its first fault is; nowhere if the whole array has it
abbrev pub array_spot : Element → Option Items → Option Spot
array_spot element None = None
array_spot element (Some items) =
    if nat_le (length (elements items)) 256 then first_spot element (elements items) else None

-- where in a key's value its fault is, if an element of an array has it
abbrev pub form_spot : Form → Option Data → Option Spot
form_spot (Tables element) (Some value) = array_spot element (as_array value)
form_spot form value = None

abbrev pub key_spot : Members → Key → Option Spot
key_spot table key = form_spot (key_row key).1 (key_value table key)

-- the number of an integer; 0 for a negative one
abbrev pub number_read : Option ℤ → ℕ
number_read None = 0
number_read (Some (pos number)) = number
number_read (Some (negsuc number)) = 0

abbrev pub integer_in : Form → Option Data → ℕ
integer_in (Integer absent most) None = absent
integer_in (Integer absent most) (Some value) = number_read (as_integer value)
integer_in form value = 0

abbrev pub text_in : Form → Option Data → List ℕ
text_in (Text kind) None = unwrap_or (absent_text kind) []
text_in (Text kind) (Some value) = unwrap_or (as_str value) []
text_in form value = []

-- the integer that is read if the value has no fault
abbrev pub integer_read : Members → RowData → ℕ
integer_read table row = integer_in row.1 (value_at table row)

-- the text that is read if the value has no fault
abbrev pub text_read : Members → RowData → List ℕ
text_read table row = text_in row.1 (value_at table row)

-- the elements of the array that is read if the value has no fault
abbrev pub values_read : Option Data → List Data
values_read None = []
values_read (Some value) = option_map_or elements (as_array value) []
