-- The keys of the settings, and of the tables in their arrays, that are unknown.
use Rattle.std.specs.Prelude.{ℕ, Bool, not, List, [], ◌∷◌, Option, None, Some, nat_eq, ◌||◌, true, false, ◌++◌, filter, map}
use Rattle.std.specs.Cmp.Lexicographic.{pointwise}
use Rattle.gopher_scope.specs.declared.settings.key.Key.{Key}
use Rattle.gopher_scope.specs.declared.settings.key.Key.TheVariants as key
use Rattle.gopher_scope.specs.declared.settings.tables.Field.TheVariants as field
use Rattle.gopher_scope.specs.declared.settings.row.Form.{Form}
use Rattle.gopher_scope.specs.declared.settings.row.Form.TheVariants.{Tables}
use Rattle.gopher_scope.specs.declared.settings.tables.Element.{Element}
use Rattle.gopher_scope.specs.declared.settings.tables.Element.TheVariants as element
use Rattle.std.specs.Option.{option_map_or}
use Rattle.toml.specs.Data.{Data, Members, as_table, no_members, member}
use Rattle.std.specs.List.{flat_map, list_any}
use Rattle.gopher_scope.specs.Rows.{all_keys, key_row, key_name, element_fields, field_row}
use Rattle.gopher_scope.specs.Values.{elements, key_value, values_read}

-- an unknown key: the key of the array with its table, or nothing for one of the settings' own; and
-- its name
abbrev pub Unknown : Type 0
Unknown = Option Key × List ℕ

-- the names of a table's keys, in its order
abbrev pub table_names : Members → List (List ℕ)
table_names no_members = []
table_names (member name value more) = name ∷ table_names more

unfoldable pub is_key_name : List Key → List ℕ → Bool
is_key_name keys name = list_any (λ key. pointwise nat_eq (key_name key) name) keys

unfoldable pub is_field_name : Element → List ℕ → Bool
is_field_name element name =
    list_any (λ field. pointwise nat_eq (field_row field).0 name) (element_fields element)

abbrev pub is_form_name : Form → List ℕ → Bool
is_form_name (Tables element) name = is_field_name element name
is_form_name form name = true

-- a table in the array of this key, or the settings' own table, may have the key
abbrev pub is_known_in : Option Key → List ℕ → Bool
is_known_in None name = is_key_name all_keys name
is_known_in (Some array) name = is_form_name (key_row array).1 name

-- those of these names that are unknown there
abbrev pub unknown_among : Option Key → List (List ℕ) → List Unknown
unknown_among array names =
    map (λ name. (array, name)) (filter (λ name. not (is_known_in array name)) names)

abbrev pub unknown_in : Option Key → Members → List Unknown
unknown_in array table = unknown_among array (table_names table)

abbrev pub element_unknown : Key → Data → List Unknown
element_unknown array value = option_map_or (unknown_in (Some array)) (as_table value) []

-- the elements of the array of a key
abbrev pub elements_at : Members → Key → List Data
elements_at table array = values_read (key_value table array)

abbrev pub array_unknown : Members → Key → List Unknown
array_unknown table array = flat_map (element_unknown array) (elements_at table array)

abbrev pub arrays_unknown : Members → List Key → List Unknown
arrays_unknown table keys = flat_map (array_unknown table) keys

-- the settings' own, then those of the tables in each array
abbrev pub unknown_keys : Members → List Unknown
unknown_keys table = unknown_in None table ++ arrays_unknown table all_keys

-- a table, in the array of this key or the settings' own, has an unknown key
abbrev pub has_unknown : Option Key → Members → Bool
has_unknown array table = list_any (λ name. not (is_known_in array name)) (table_names table)

abbrev pub element_has_unknown : Key → Data → Bool
element_has_unknown array value = option_map_or (has_unknown (Some array)) (as_table value) false

abbrev pub array_has_unknown : Members → Key → Bool
array_has_unknown table array = list_any (element_has_unknown array) (elements_at table array)

-- the settings, or a table in one of their arrays, have an unknown key
unfoldable pub have_unknown : Members → Bool
have_unknown table = has_unknown None table || list_any (array_has_unknown table) all_keys
