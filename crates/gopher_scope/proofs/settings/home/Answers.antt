use Rattle.std.proofs.Common.{◌≡◌, ◌≢◌, None, rules, arith}
use Rattle.toml.specs.View.{table_view}
use Rattle.gopher_item.specs.Place.{HomeData, address_fault}
use Rattle.gopher_item.specs.declared.fault.ItemFault.TheVariants.{NoMemory}
use Rattle.gopher_scope.proofs.Faultless.{form_problem-none, home_fault-none, integer_in_range, Makes-none}
use Rattle.gopher_scope.specs.Values.{integer_read, key_value}
use Rattle.gopher_scope.specs.Rows.{key_row}
use Rattle.gopher_scope.specs.Settings.{IsUpTo}
use Rattle.gopher_scope.specs.declared.settings.key.Key.TheVariants.{Port}
use Rattle.gopher_scope.proofs.settings.home.Goals as goal

pub overflow_cast-integer_at : goal.overflow_cast-integer_at
overflow_cast-integer_at c =
    let table = table_view c.args.table.now in
    let range : IsUpTo 65535 (integer_read table (key_row Port)) = integer_in_range 70 65535 (key_value table Port) (omega arith, omega arith) (form_problem-none table Port c.requires) in
    rw c.integer_at.ensures (omega (arith, range))

pub unreachable-requires : goal.unreachable-requires
unreachable-requires c =
    let host = c.as_bytes-host.result.now in
    let none : address_fault host c.integer_at.result ≡ None =
    rw (c.as_bytes-host.ensures.value, c.text.ensures, c.row.ensures, c.integer_at.ensures) (home_fault-none (table_view c.args.table.now) c.requires) in
    let home : HomeData = record { host = host; port = c.integer_at.result } in
    let other : c.in-Err.field-0 ≢ NoMemory = search rules in
    other (Makes-none (address_fault host c.integer_at.result) home c.in-Err.field-0 none (rw c.in-Err.is at c.new.ensures))
