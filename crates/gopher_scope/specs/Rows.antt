-- The keys of the settings, in the order in which they are checked, and the valid values of each.
use Rattle.std.specs.Prelude.{ℕ, Bool, not, List, [], ◌∷◌, length, Option, None, Some, codes, nat_eq, ◌==◌, ◌||◌}
use Rattle.std.specs.Cmp.Lexicographic.{pointwise}
use Rattle.gopher_item.specs.Place.{is_host, is_selector}
use Rattle.gopher_scope.specs.declared.settings.key.Key.{Key}
use Rattle.gopher_scope.specs.declared.settings.key.Key.TheVariants as key
use Rattle.gopher_scope.specs.declared.settings.tables.Field.{Field}
use Rattle.gopher_scope.specs.declared.settings.tables.Field.TheVariants as field
use Rattle.gopher_scope.specs.declared.settings.row.Form.{Form}
use Rattle.gopher_scope.specs.declared.settings.row.Form.TheVariants.{Integer, Text, Tables}
use Rattle.gopher_scope.specs.declared.settings.tables.Element.{Element}
use Rattle.gopher_scope.specs.declared.settings.tables.Element.TheVariants as element
use Rattle.gopher_scope.specs.declared.settings.row.TextKind.{TextKind}
use Rattle.gopher_scope.specs.declared.settings.row.TextKind.TheVariants.{Host, Path, PlaceKind, Selector}

-- the keys of the settings, in the order in which they are checked
abbrev pub all_keys : List Key
all_keys =
    key.Host ∷ key.Port ∷ key.Root ∷ key.Seeds ∷ key.Allow ∷ key.Deny ∷ key.Places ∷ key.Workers
    ∷ key.Threads ∷ key.Tries ∷ []

-- the name of a key, and its valid values
abbrev pub RowData : Type 0
RowData = List ℕ × Form

-- the row of a key of the settings; an integer has its value for a missing key and its
-- maximum, and is at least 1
abbrev pub key_row : Key → RowData
key_row key.Host = (codes "host", Text Host)
key_row key.Port = (codes "port", Integer 70 65535)
key_row key.Root = (codes "root", Text Path)
key_row key.Seeds = (codes "seeds", Tables element.Seed)
key_row key.Allow = (codes "allow", Tables element.Rule)
key_row key.Deny = (codes "deny", Tables element.Rule)
key_row key.Places = (codes "places", Integer 4096 65536)
key_row key.Workers = (codes "workers", Integer 4 16)
key_row key.Threads = (codes "threads", Integer 2 8)
key_row key.Tries = (codes "tries", Integer 1 5)

abbrev pub key_name : Key → List ℕ
key_name key = (key_row key).0

-- the keys of a table in an array, in the order in which they are checked
abbrev pub element_fields : Element → List Field
element_fields element.Seed = field.Kind ∷ field.Host ∷ field.Port ∷ field.Selector ∷ []
element_fields element.Rule = field.Host ∷ field.Port ∷ field.Prefix ∷ []

-- the row of a key of such a table
abbrev pub field_row : Field → RowData
field_row field.Kind = (codes "type", Text PlaceKind)
field_row field.Host = (codes "host", Text Host)
field_row field.Port = (codes "port", Integer 70 65535)
field_row field.Selector = (codes "selector", Text Selector)
field_row field.Prefix = (codes "prefix", Text Selector)

-- the value of such a text if its key is missing; the keys of a host and a path are required
abbrev pub absent_text : TextKind → Option (List ℕ)
absent_text Host = None
absent_text Path = None
absent_text PlaceKind = Some (codes "1")
absent_text Selector = Some []

-- the text is in range
abbrev pub is_in_range : TextKind → List ℕ → Bool
is_in_range Host text = is_host text
is_in_range Path text = not (length text == 0)
is_in_range PlaceKind text = pointwise nat_eq text (codes "0") || pointwise nat_eq text (codes "1")
is_in_range Selector text = is_selector text
