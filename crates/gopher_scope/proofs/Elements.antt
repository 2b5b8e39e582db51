-- Arrays and tables of TOML as lists, and the first result of a list.
use Rattle.std.proofs.Common.{◌≡◌, ℕ, zero, suc, ◌<◌, List, [], ◌∷◌, length, nat_le, if◌then◌else◌, map, get_or, Option, Some, None, String, Global, string_bytes, refl, ap, sym, subst, arith}
use Rattle.std.specs.Option.{option_or}
use Rattle.std.specs.Map.{keys_of}
use Rattle.std.proofs.lemmas.List.{length-map}
use Rattle.std.proofs.Math.ListN.{get_or-map}
use Rattle.toml.specs.Data.{Data, Members, as_array, as_table}
use Rattle.toml.specs.View.{view, items_of, items_view, members_view}
use Rattle.toml.specs.declared.value.Value.{Value}
use Rattle.gopher_scope.specs.Values.{elements, first_of, array_problem, array_spot, element_problem, first_spot, table_problem, values_read}
use Rattle.gopher_scope.specs.Unknown.{table_names}
use Rattle.gopher_scope.specs.declared.settings.tables.Element.{Element}
use Rattle.gopher_scope.specs.declared.settings.row.Problem.TheVariants.{OutOfRange}

-- the elements of a list as items are the list
pub elements-items_of : (values : List Data) → elements (items_of values) ≡ values
elements-items_of [] = refl
elements-items_of (value ∷ values) = ap (λ more. value ∷ more) (elements-items_of values)

-- the names of a table are those of its map's keys
pub table_names-view : (entries : List (String Global × Value)) → table_names (members_view entries) ≡ map (λ name. string_bytes name) (keys_of entries)
table_names-view [] = refl
table_names-view (entry ∷ entries) = ap (λ more. string_bytes entry.0 ∷ more) (table_names-view entries)

-- if neither of two results exists, each is none
option_or-none : {A : Type 0} (a b : Option A) → option_or a b ≡ None → (a ≡ None) × (b ≡ None)
option_or-none None b none = (refl, none)
option_or-none (Some x) b none = absurd (cc)

-- the fault of an array, by the values of its vector
pub array_problem-view : (element : Element) (values : List Value) → array_problem element (Some (items_view values)) ≡ (if nat_le (length values) 256 then first_of (element_problem element) (map view values) else Some OutOfRange)
array_problem-view element values = rw (elements-items_of (map view values), length-map)

-- the spot of an array's first fault, by the values of its vector
pub array_spot-view : (element : Element) (values : List Value) → array_spot element (Some (items_view values)) ≡ (if nat_le (length values) 256 then first_spot element (map view values) else None)
array_spot-view element values = rw (elements-items_of (map view values), length-map)

-- if a test gives no result for the elements, it gives none at any index
pub first_of-none : {A B : Type 0} (answer : A → Option B) (xs : List A) (i : ℕ) (x : A) → first_of answer xs ≡ None → i < length xs → answer (get_or xs i x) ≡ None
first_of-none answer [] i x none inside = absurd (omega arith)
first_of-none answer (y ∷ xs) zero x none inside = (option_or-none (answer y) (first_of answer xs) none).0
first_of-none answer (y ∷ xs) (suc i) x none inside =
    first_of-none answer xs i x (option_or-none (answer y) (first_of answer xs) none).1 (omega arith)

-- if the values have no fault, neither has a table among them
pub table_problem-none : (element : Element) (values : List Value) (i : ℕ) (value : Value) (table : Members) → first_of (element_problem element) (map view values) ≡ None → i < length values → value ≡ get_or values i value → Some table ≡ as_table (view value) → table_problem element (Some table) ≡ None
table_problem-none element values i value table none inside found seen =
    let elements = map view values in
    let at_value : Value → Type 0 = λ v. element_problem element (view v) ≡ None in
    let at_table : Option Members → Type 0 = λ t. table_problem element t ≡ None in
    let in_list = first_of-none (element_problem element) elements i (view value) none (rw length-map inside) in
    subst at_table (sym seen) (subst at_value (sym found) (subst (λ v. element_problem element v ≡ None) (get_or-map view values i value) in_list))

-- the elements of an array
pub values_read-array : (found : Option Data) (value : Data) (values : List Value) → Some value ≡ found → Some (items_view values) ≡ as_array value → map view values ≡ values_read found
values_read-array found value values is_there is_array =
    rw (← is_there, ← is_array) (sym (elements-items_of (map view values)))
