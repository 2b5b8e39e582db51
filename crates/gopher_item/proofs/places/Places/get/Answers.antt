use Rattle.std.proofs.Common.{◌<◌, length, slice_get, refl, sym, ap, ◌∙◌, arith, subst}
use Rattle.std.proofs.lemmas.Option.{slice_get_read}
use Rattle.gopher_item.proofs.PackedPlaces.{HasHost, length-unpacked, host_at, place_at}
use Rattle.gopher_item.proofs.places.Places.get.Goals as goal

pub index-row-requires : goal.index-row-requires
index-row-requires c =
    omega (arith, c.requires, ap length c.self.view_is, length-unpacked c.self.inside.hosts c.self.inside.selectors c.self.inside.rows.items c.self.invariant, c.self.inside.rows.ok.0)

pub get-host-requires : goal.get-host-requires
get-host-requires c =
    let rows = c.self.inside.rows.items in
    let within : c.args.index < length rows = omega (arith, c.requires, ap length c.self.view_is, length-unpacked c.self.inside.hosts c.self.inside.selectors rows c.self.invariant) in
    subst (HasHost c.self.inside.hosts) (sym c.index-row.ensures) (host_at c.self.inside.hosts rows c.args.index c.index-row.result.now c.self.invariant.within within)

pub get-selector-requires : goal.get-selector-requires
get-selector-requires c =
    omega (arith, c.requires, ap length c.self.view_is, length-unpacked c.self.inside.hosts c.self.inside.selectors c.self.inside.rows.items c.self.invariant, c.self.invariant.same)

pub returns : goal.returns
returns c =
    let rows = c.self.inside.rows.items in
    let within : c.args.index < length rows = omega (arith, c.requires, ap length c.self.view_is, length-unpacked c.self.inside.hosts c.self.inside.selectors rows c.self.invariant) in
    let row = slice_get_read rows (length rows) c.args.index c.index-row.result.now refl within c.index-row.ensures in
    let there = place_at c.self.inside.hosts c.self.inside.selectors rows c.args.index c.get-host.result.now c.get-selector.result.now c.index-row.result.now c.get-host.ensures c.get-selector.ensures row in
    ap (λ places. slice_get places c.args.index) (sym c.self.view_is) ∙ there
