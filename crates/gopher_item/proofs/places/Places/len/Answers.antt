use Rattle.std.proofs.Common.{length, sym, ap, ◌∙◌}
use Rattle.std.proofs.lemmas.List.{length-map}
use Rattle.std.specs.List.{zip}
use Rattle.gopher_bytes.proofs.Zips.{length-zip}
use Rattle.gopher_item.specs.Places.{place_of_row}
use Rattle.gopher_item.proofs.places.Places.len.Goals as goal

pub returns : goal.returns
returns c =
    c.len.ensures ∙ c.self.inside.rows.ok.0 ∙ c.self.invariant.same ∙ sym (length-zip c.self.inside.selectors c.self.inside.rows.items c.self.invariant.same)
    ∙ sym (length-map (zip c.self.inside.selectors c.self.inside.rows.items) (place_of_row c.self.inside.hosts)) ∙ ap length c.self.view_is
