use Rattle.std.proofs.Common.{◌≡◌, ◌≢◌, None, rules}
use Rattle.toml.specs.View.{table_view}
use Rattle.gopher_item.specs.Place.{place_fault, place_of}
use Rattle.gopher_item.specs.declared.fault.ItemFault.TheVariants.{NoMemory}
use Rattle.gopher_scope.proofs.Faultless.{Makes-none, seed_fault-none}
use Rattle.gopher_scope.proofs.settings.items.seed.Goals as goal

pub unreachable-requires : goal.unreachable-requires
unreachable-requires c =
    let host = c.as_bytes-host.result.now in
    let selector = c.as_bytes-selector.result.now in
    let none : place_fault c.kind.result selector host c.port.result ≡ None =
    rw (c.kind.ensures, c.as_bytes-selector.ensures.value, c.as_bytes-host.ensures.value, c.text.ensures, c.row.ensures, c.text-2.ensures, c.row-2.ensures, c.port.ensures) (seed_fault-none (table_view c.args.table.now) c.requires) in
    let other : c.in-Err.field-0 ≢ NoMemory = search rules in
    other (Makes-none (place_fault c.kind.result selector host c.port.result) (place_of c.kind.result selector host c.port.result) c.in-Err.field-0 none (rw c.in-Err.is at c.new.ensures))
