-- The value of each key of a table without a fault.
use Rattle.std.proofs.Common.{◌≡◌, ◌≢◌, ℕ, ℤ, pos, negsuc, ◌<◌, ◌≤◌, Bool, true, false, List, [], ◌∷◌, length, get_or, Option, Some, None, Result, Ok, Err, IfOk, refl, sym, subst, arith}
use Rattle.std.specs.Prelude.{unwrap_or, nat_eq, codes, IsSomeAnd, MatchOption, IfSome}
use Rattle.std.specs.Cmp.Lexicographic.{pointwise}
use Rattle.std.specs.Option.{option_map, option_map_or}
use Rattle.std.specs.Bool.{if◌then◌else◌}
use Rattle.std.proofs.lemmas.Grind.{common_steps}
use Rattle.std.proofs.lemmas.Bool.Decides.{nat_tests}
use Rattle.toml.specs.Data.{Data, Items, Members, as_array, as_integer, as_str}
use Rattle.gopher_scope.proofs.Elements.{first_of-none}
use Rattle.gopher_item.specs.Place.{is_host, is_place_kind, address_fault, place_fault}
use Rattle.gopher_item.specs.declared.fault.ItemFault.{ItemFault}
use Rattle.gopher_item.specs.declared.fault.ItemFault.TheVariants.{NoMemory}
use Rattle.gopher_item.specs.Fault.{Makes}
use Rattle.gopher_scope.specs.Values.{integer_read, text_read, elements, first_of, value_at, key_value, field_problem, integer_problem, number_read, text_problem, scalar_problem, table_problem, integer_in, text_in, element_problem, array_problem, values_read, form_problem}
use Rattle.gopher_scope.specs.Rows.{all_keys, key_row, element_fields, field_row, absent_text, is_in_range}
use Rattle.gopher_scope.specs.Unknown.{have_unknown}
use Rattle.gopher_scope.specs.Settings.{key_fault, settings_fault, settings_read, settings_data, settings_of, kind_read, Answers, ReadsTable, IsUpTo, AreInRange, AreValuesIn, SettingsData}
use Rattle.gopher_scope.specs.declared.settings.Settings.{Settings}
use Rattle.gopher_scope.specs.declared.fault.SettingsFault.{SettingsFault}
use Rattle.gopher_scope.specs.declared.fault.SettingsFault.TheVariants.{NoMemory as NoMemoryLeft}
use Rattle.gopher_scope.specs.declared.settings.row.Form.{Form}
use Rattle.gopher_scope.specs.declared.settings.row.Form.TheVariants.{Integer, Text, Tables}
use Rattle.gopher_scope.specs.declared.settings.key.Key.{Key}
use Rattle.gopher_scope.specs.declared.settings.key.Key.TheVariants as key
use Rattle.gopher_scope.specs.declared.settings.tables.Element.{Element}
use Rattle.gopher_scope.specs.declared.settings.tables.Element.TheVariants as element
use Rattle.gopher_scope.specs.declared.settings.tables.Field.TheVariants as field
use Rattle.gopher_scope.specs.declared.settings.row.Problem.TheVariants.{OutOfRange}
use Rattle.gopher_scope.specs.declared.settings.row.TextKind.{TextKind}
use Rattle.gopher_scope.specs.declared.settings.row.TextKind.TheVariants.{Host, Path, PlaceKind, Selector}

-- a choice without a result
then_none : {A : Type 0} (test : Bool) (first : Option A) (x : A) → (if test then first else Some x) ≡ None → first ≡ None
then_none true first x none = none
then_none false first x none = absurd (cc)

else_none : {A : Type 0} (test : Bool) (x : A) (second : Option A) → (if test then Some x else second) ≡ None → second ≡ None
else_none true x second none = absurd (cc)
else_none false x second none = none

option_map-none : {A B : Type 0} (f : A → B) (o : Option A) → option_map f o ≡ None → o ≡ None
option_map-none f None none = refl
option_map-none f (Some x) none = absurd (cc)

-- an integer without a fault is the number that is read, and in range
number_stands : (most : ℕ) (number : Option ℤ) → integer_problem most number ≡ None → number ≡ Some (pos (number_read number))
number_stands most None none = absurd cc
number_stands most (Some (pos number)) none = refl
number_stands most (Some (negsuc number)) none = absurd cc

number_in_range : (most : ℕ) (number : Option ℤ) → integer_problem most number ≡ None → IsUpTo most (number_read number)
number_in_range most None none = absurd (cc)
number_in_range most (Some (pos number)) none = (grind (arith, common_steps, nat_tests), grind (arith, common_steps, nat_tests))
number_in_range most (Some (negsuc number)) none = absurd (cc)

pub integer_in_range : (absent most : ℕ) (value : Option Data) → IsUpTo most absent → scalar_problem (Integer absent most) value ≡ None → IsUpTo most (integer_in (Integer absent most) value)
integer_in_range absent most None good none = good
integer_in_range absent most (Some value) good none = number_in_range most (as_integer value) none

integer_stands : (absent most : ℕ) (value : Option Data) → scalar_problem (Integer absent most) value ≡ None → MatchOption value (integer_in (Integer absent most) value ≡ absent) (λ v. as_integer v ≡ Some (pos (integer_in (Integer absent most) value)))
integer_stands absent most None none = refl
integer_stands absent most (Some value) none = number_stands most (as_integer value) none

-- a text without a fault is in range
passed : {A : Type 0} (test : Bool) (x : A) → (if test then None else Some x) ≡ None → test ≡ true
passed true x none = refl
passed false x none = absurd (cc)

text_problem-none : (kind : TextKind) (text : Option (List ℕ)) → text_problem kind text ≡ None → is_in_range kind (unwrap_or text []) ≡ true
text_problem-none kind None none = absurd (cc)
text_problem-none kind (Some text) none = passed (is_in_range kind text) OutOfRange none

pub text-in_range : (kind : TextKind) (value : Option Data) → scalar_problem (Text kind) value ≡ None → is_in_range kind (text_in (Text kind) value) ≡ true
text-in_range Host None none = absurd (cc)
text-in_range Path None none = absurd (cc)
text-in_range PlaceKind None none = refl
text-in_range Selector None none = refl
text-in_range kind (Some value) none = text_problem-none kind (as_str value) none

-- an address and a place of parts in range have no fault
pub address_fault-none : (host : List ℕ) (port : ℕ) → is_host host ≡ true → 1 ≤ port → address_fault host port ≡ None
address_fault-none host port good_host good_port = rw good_host (grind (arith, nat_tests))

kind_is_good : (is_file : Bool) → is_place_kind (if is_file then 48 else 49) ≡ true
kind_is_good true = refl
kind_is_good false = refl

pub seed_fault-none : (table : Members) → table_problem element.Seed (Some table) ≡ None → place_fault (kind_read (text_read table (field_row field.Kind))) (text_read table (field_row field.Selector)) (text_read table (field_row field.Host)) (integer_read table (field_row field.Port)) ≡ None
seed_fault-none table none =
    let host = first_of-none (field_problem table) (element_fields element.Seed) 1 field.Host none (omega arith) in
    let port = first_of-none (field_problem table) (element_fields element.Seed) 2 field.Host none (omega arith) in
    let selector = first_of-none (field_problem table) (element_fields element.Seed) 3 field.Host none (omega arith) in
    let good_host = text-in_range Host (value_at table (field_row field.Host)) host in
    let good_port = (integer_in_range 70 65535 (value_at table (field_row field.Port)) (omega arith, omega arith) port).0 in
    let good_selector = text-in_range Selector (value_at table (field_row field.Selector)) selector in
    let good_address = address_fault-none (text_read table (field_row field.Host)) (integer_read table (field_row field.Port)) good_host good_port in
    rw (kind_is_good (pointwise nat_eq (text_read table (field_row field.Kind)) (codes "0")), good_selector) good_address

-- the elements of an array without a fault have none
array_values-none : (element : Element) (items : Option Items) → array_problem element items ≡ None → first_of (element_problem element) (option_map_or elements items []) ≡ None
array_values-none element None none = absurd (cc)
array_values-none element (Some items) none = then_none _ _ _ none

pub values_read-none : (element : Element) (value : Option Data) → form_problem (Tables element) value ≡ None → first_of (element_problem element) (values_read value) ≡ None
values_read-none element None none = refl
values_read-none element (Some value) none = array_values-none element (as_array value) none

-- the value of a key without a fault has none
key_fault-none : (table : Members) (key : Key) → key_fault table key ≡ None → form_problem (key_row key).1 (key_value table key) ≡ None
unfolding key_fault
key_fault-none table key none = option_map-none _ _ none

key_fault-at : (table : Members) (i : ℕ) → settings_fault table ≡ None → i < length all_keys → key_fault table (get_or all_keys i key.Host) ≡ None
key_fault-at table i none inside =
    first_of-none (key_fault table) all_keys i key.Host (else_none (have_unknown table) _ (first_of (key_fault table) all_keys) none) inside

-- the value of each key of a table without a fault has none
pub form_problem-none : (table : Members) (at : Key) → settings_fault table ≡ None → form_problem (key_row at).1 (key_value table at) ≡ None
form_problem-none table key.Host none = key_fault-none table key.Host (key_fault-at table 0 none (omega arith))
form_problem-none table key.Port none = key_fault-none table key.Port (key_fault-at table 1 none (omega arith))
form_problem-none table key.Root none = key_fault-none table key.Root (key_fault-at table 2 none (omega arith))
form_problem-none table key.Seeds none = key_fault-none table key.Seeds (key_fault-at table 3 none (omega arith))
form_problem-none table key.Allow none = key_fault-none table key.Allow (key_fault-at table 4 none (omega arith))
form_problem-none table key.Deny none = key_fault-none table key.Deny (key_fault-at table 5 none (omega arith))
form_problem-none table key.Places none = key_fault-none table key.Places (key_fault-at table 6 none (omega arith))
form_problem-none table key.Workers none = key_fault-none table key.Workers (key_fault-at table 7 none (omega arith))
form_problem-none table key.Threads none = key_fault-none table key.Threads (key_fault-at table 8 none (omega arith))
form_problem-none table key.Tries none = key_fault-none table key.Tries (key_fault-at table 9 none (omega arith))

pub scalar_problem-none : (form : Form) (value : Option Data) → form_problem form value ≡ None → scalar_problem form value ≡ None
scalar_problem-none (Integer absent most) value none = none
scalar_problem-none (Text kind) value none = none
scalar_problem-none (Tables element) value none = refl

-- if the parts have no fault, making their value fails only if out of memory
pub Makes-none : {T : Type 0} (fault : Option ItemFault) (value : T) (found : ItemFault) → fault ≡ None → Makes fault value (Err found) → found ≡ NoMemory
Makes-none None value found none made = made
Makes-none (Some first) value found none made = absurd (cc)

pub home_fault-none : (table : Members) → settings_fault table ≡ None → address_fault (text_read table (key_row key.Host)) (integer_read table (key_row key.Port)) ≡ None
home_fault-none table none =
    let good_host = text-in_range Host (key_value table key.Host) (form_problem-none table key.Host none) in
    let good_port = integer_in_range 70 65535 (key_value table key.Port) (omega arith, omega arith) (form_problem-none table key.Port none) in
    address_fault-none (text_read table (key_row key.Host)) (integer_read table (key_row key.Port)) good_host good_port.0

not_empty : (text : List ℕ) → is_in_range Path text ≡ true → 0 < length text
not_empty [] good = absurd cc
not_empty (byte ∷ text) good = omega arith

-- the settings of a table without a fault are in range
pub settings_in_range : (table : Members) → settings_fault table ≡ None → AreInRange (settings_read table)
settings_in_range table none = record {
  port = integer_in_range 70 65535 (key_value table key.Port) (omega arith, omega arith) (form_problem-none table key.Port none);
  root = not_empty (text_read table (key_row key.Root)) (text-in_range Path (key_value table key.Root) (form_problem-none table key.Root none));
  places = integer_in_range 4096 65536 (key_value table key.Places) (omega arith, omega arith) (form_problem-none table key.Places none);
  workers = integer_in_range 4 16 (key_value table key.Workers) (omega arith, omega arith) (form_problem-none table key.Workers none);
  threads = integer_in_range 2 8 (key_value table key.Threads) (omega arith, omega arith) (form_problem-none table key.Threads none);
  tries = integer_in_range 1 5 (key_value table key.Tries) (omega arith, omega arith) (form_problem-none table key.Tries none);
}

text_stands : (kind : TextKind) (text : Option (List ℕ)) → text_problem kind text ≡ None → text ≡ Some (unwrap_or text [])
text_stands kind None none = absurd cc
text_stands kind (Some text) none = refl

required_stands : (kind : TextKind) (value : Option Data) → absent_text kind ≡ None → scalar_problem (Text kind) value ≡ None → IsSomeAnd value (λ v. as_str v ≡ Some (text_in (Text kind) value))
required_stands kind None required none = absurd (cc)
required_stands kind (Some value) required none = text_stands kind (as_str value) none

-- the settings of a table without a fault are its values
pub settings_stand : (table : Members) → settings_fault table ≡ None → AreValuesIn table (settings_read table)
settings_stand table none = record {
  host = required_stands Host (key_value table key.Host) refl (form_problem-none table key.Host none);
  port = integer_stands 70 65535 (key_value table key.Port) (form_problem-none table key.Port none);
  root = required_stands Path (key_value table key.Root) refl (form_problem-none table key.Root none);
  places = integer_stands 4096 65536 (key_value table key.Places) (form_problem-none table key.Places none);
  workers = integer_stands 4 16 (key_value table key.Workers) (form_problem-none table key.Workers none);
  threads = integer_stands 2 8 (key_value table key.Threads) (form_problem-none table key.Threads none);
  tries = integer_stands 1 5 (key_value table key.Tries) (form_problem-none table key.Tries none);
}

-- a property of the settings of a table, for a call that returns them
answers_with : (P : SettingsData → Type 0) (table : Members) (result : Result Settings SettingsFault) → (settings_fault table ≡ None → P (settings_read table)) → ReadsTable table result
    → IfOk result (λ settings. P (settings_data settings))
answers_with P table (Err found) holds answers = tt
answers_with P table (Ok made) holds answers = by (settings_fault table) refl answers
  where
    by : (fault : Option SettingsFault) → settings_fault table ≡ fault → Answers fault (settings_read table) (Ok made) → P (settings_data made)
    by None none same = subst P (sym same) (holds none)
    by (Some fault) none same = absurd cc

pub answers_in_range : (table : Members) (result : Result Settings SettingsFault) → ReadsTable table result → IfOk result (λ settings. AreInRange (settings_data settings))
answers_in_range table result answers = answers_with AreInRange table result (settings_in_range table) answers

pub answers_stand : (text : Option Members) (table : Members) (result : Result Settings SettingsFault) → text ≡ Some table → ReadsTable table result
    → IfOk result (λ settings. IfSome text (λ read. AreValuesIn read (settings_data settings)))
answers_stand text table result is answers =
    subst (λ t. IfOk result (λ settings. IfSome t (λ read. AreValuesIn read (settings_data settings)))) (sym is)
    (answers_with (AreValuesIn table) table result (settings_stand table) answers)

-- a call that fails for another reason than memory fails with the fault of the table
pub settings_of-refused : (table : Members) (found : SettingsFault) → ReadsTable table (Err found) → found ≢ NoMemoryLeft → settings_of (Some table) ≡ Err found
settings_of-refused table found answers other = by (settings_fault table) answers
  where
    by : (fault : Option SettingsFault) → Answers fault (settings_read table) (Err found) → option_map_or Err fault (Ok (settings_read table)) ≡ Err found
    by (Some fault) same = cc
    by None memory = absurd (other memory)
