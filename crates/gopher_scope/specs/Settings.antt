-- Settings and how they are read.
use Rattle.std.specs.Prelude.{◌≡◌, ◌≢◌, ℕ, pos, ◌<◌, ◌≤◌, List, length, map, Option, None, Some, IfSome, IsSomeAnd, MatchOption, Result, Ok, Err, nat_eq, codes, string_bytes, if◌then◌else◌}
use Rattle.std.specs.List.{filter_map}
use Rattle.std.specs.Option.{option_map, option_map_or}
use Rattle.std.specs.Cmp.Lexicographic.{pointwise}
use Rattle.toml.specs.Data.{Data, Members, get_member, as_integer, as_str, as_table}
use Rattle.toml.specs.Parse.{parse_document}
use Rattle.gopher_item.specs.Place.{PlaceData, HomeData, place_of}
use Rattle.gopher_item.specs.Rule.{RuleData, rule_of}
use Rattle.gopher_item.specs.Scope.{ScopeData}
use Rattle.gopher_scope.specs.Rows.{all_keys, key_row, field_row}
use Rattle.gopher_scope.specs.Values.{first_of, form_problem, key_value, integer_read, text_read}
use Rattle.gopher_scope.specs.Unknown.{elements_at, have_unknown}
use Rattle.gopher_scope.specs.declared.fault.SettingsFault.{SettingsFault}
use Rattle.gopher_scope.specs.declared.fault.SettingsFault.TheVariants as fault
use Rattle.gopher_scope.specs.declared.settings.Settings.{Settings}
use Rattle.gopher_scope.specs.declared.settings.key.Key.{Key}
use Rattle.gopher_scope.specs.declared.settings.key.Key.TheVariants as key
use Rattle.gopher_scope.specs.declared.settings.tables.Field.TheVariants as field
use Rattle.gopher_scope.specs.declared.settings.row.Problem.{Problem}
use Rattle.gopher_scope.specs.declared.settings.row.Problem.TheVariants as problem

-- settings as data
pub record SettingsData : Type 0 where
  pub home : HomeData
  pub root : List ℕ
  pub seeds : List PlaceData
  pub scope : ScopeData
  pub places : ℕ
  pub workers : ℕ
  pub threads : ℕ
  pub tries : ℕ

abbrev pub settings_data : Settings → SettingsData
settings_data s =
    record {
      home = s.home;
      root = string_bytes s.root;
      seeds = s.seeds.items;
      scope = s.scope;
      places = s.places;
      workers = s.workers;
      threads = s.threads;
      tries = s.tries;
    }

-- a number from 1 to `most`
abbrev pub IsUpTo : ℕ → ℕ → Type 0
IsUpTo most number = (1 ≤ number) × (number ≤ most)

-- the numbers are in range, and the folder has a name
pub record AreInRange (settings : SettingsData) : Type 0 where
  pub port : IsUpTo 65535 settings.home.port
  pub root : 0 < length settings.root
  pub places : IsUpTo 65536 settings.places
  pub workers : IsUpTo 16 settings.workers
  pub threads : IsUpTo 8 settings.threads
  pub tries : IsUpTo 5 settings.tries

-- the number is the value of a key, or `absent` if the key is missing
abbrev pub IsNumberAt : Members → List ℕ → ℕ → ℕ → Type 0
IsNumberAt table name absent number =
    MatchOption (get_member name table) (number ≡ absent)
    (λ value. as_integer value ≡ Some (pos number))

-- the text is the value of a key
abbrev pub IsTextAt : Members → List ℕ → List ℕ → Type 0
IsTextAt table name text = IsSomeAnd (get_member name table) (λ value. as_str value ≡ Some text)

-- the numbers and texts are the values of a table's keys
pub record AreValuesIn (table : Members) (settings : SettingsData) : Type 0 where
  pub host : IsTextAt table (codes "host") settings.home.host
  pub port : IsNumberAt table (codes "port") 70 settings.home.port
  pub root : IsTextAt table (codes "root") settings.root
  pub places : IsNumberAt table (codes "places") 4096 settings.places
  pub workers : IsNumberAt table (codes "workers") 4 settings.workers
  pub threads : IsNumberAt table (codes "threads") 2 settings.threads
  pub tries : IsNumberAt table (codes "tries") 1 settings.tries

-- the fault of settings with this problem at a key
abbrev pub fault_at : Key → Problem → SettingsFault
fault_at key problem.Missing = fault.Missing key
fault_at key problem.WrongKind = fault.WrongKind key
fault_at key problem.OutOfRange = fault.OutOfRange key

-- the fault of a key, if it has one; a fault inside an array is one of the array's key
unfoldable pub key_fault : Members → Key → Option SettingsFault
key_fault table key =
    option_map (fault_at key) (form_problem (key_row key).1 (key_value table key))

-- the fault of a table, if it has one: an unknown key anywhere or, without one, the fault of the
-- first key with a fault, in order
abbrev pub settings_fault : Members → Option SettingsFault
settings_fault table =
    if have_unknown table then Some fault.UnknownKey
    else first_of (key_fault table) all_keys

-- the type of a place: `0` is a file (48), `1` a directory (49)
abbrev pub kind_read : List ℕ → ℕ
kind_read text = if pointwise nat_eq text (codes "0") then 48 else 49

-- the place of a table of `seeds`
abbrev pub seed_read : Members → PlaceData
seed_read table =
    place_of (kind_read (text_read table (field_row field.Kind)))
    (text_read table (field_row field.Selector)) (text_read table (field_row field.Host))
    (integer_read table (field_row field.Port))

-- the rule of a table of `allow` or `deny`
abbrev pub rule_read : Members → RuleData
rule_read table =
    rule_of (text_read table (field_row field.Host)) (integer_read table (field_row field.Port))
    (text_read table (field_row field.Prefix))

-- the places of the tables among these values
abbrev pub seeds_read : List Data → List PlaceData
seeds_read values = map seed_read (filter_map as_table values)

-- the rules of the tables among these values
abbrev pub rules_read : List Data → List RuleData
rules_read values = map rule_read (filter_map as_table values)

-- the rules of `allow` or `deny`
abbrev pub rules_at : Members → Key → List RuleData
rules_at table key = rules_read (elements_at table key)

-- the server's address
abbrev pub home_read : Members → HomeData
home_read table = record {
  host = text_read table (key_row key.Host);
  port = integer_read table (key_row key.Port);
}

-- the settings of a table without a fault
abbrev pub settings_read : Members → SettingsData
settings_read table = record {
  home = home_read table;
  root = text_read table (key_row key.Root);
  seeds = seeds_read (elements_at table key.Seeds);
  scope = record { allow = rules_at table key.Allow; deny = rules_at table key.Deny };
  places = integer_read table (key_row key.Places);
  workers = integer_read table (key_row key.Workers);
  threads = integer_read table (key_row key.Threads);
  tries = integer_read table (key_row key.Tries);
}

-- the result of reading a text, given its table if it is TOML
abbrev pub settings_of : Option Members → Result SettingsData SettingsFault
settings_of None = Err fault.NotToml
settings_of (Some table) = option_map_or Err (settings_fault table) (Ok (settings_read table))

-- reading a table fails with its fault, returns the settings, or is out of memory
abbrev pub Answers : Option SettingsFault → SettingsData → Result Settings SettingsFault → Type 0
Answers (Some found) settings result = result ≡ Err found
Answers None settings (Ok made) = settings_data made ≡ settings
Answers None settings (Err found) = found ≡ fault.NoMemory

-- reading this table fails with its fault, returns its settings, or is out of memory
abbrev pub ReadsTable : Members → Result Settings SettingsFault → Type 0
ReadsTable table result = Answers (settings_fault table) (settings_read table) result

-- these are the settings in a text, which has no fault
abbrev pub AreSettingsOf : List ℕ → Settings → Type 0
AreSettingsOf text settings = settings_of (parse_document text) ≡ Ok (settings_data settings)

-- the numbers and texts in these settings are the values of a text's keys, if the text is TOML
abbrev pub AreValuesInText : List ℕ → Settings → Type 0
AreValuesInText text settings =
    IfSome (parse_document text) (λ table. AreValuesIn table (settings_data settings))

-- this is the fault of the settings in a text, unless memory ran out
abbrev pub IsFaultOf : List ℕ → SettingsFault → Type 0
IsFaultOf text found = found ≢ fault.NoMemory → settings_of (parse_document text) ≡ Err found
