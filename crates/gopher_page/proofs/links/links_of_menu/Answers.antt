use Rattle.std.proofs.Common.{◌≡◌, ◌∙◌, ap, subst}
use Rattle.std.specs.Result.{IfOk}
use Rattle.gopher_bytes.specs.Lines.{lines_of}
use Rattle.gopher_item.specs.Menu.{entries_of}
use Rattle.gopher_item.specs.Place.{same_place}
use Rattle.gopher_page.specs.Page.{allowed_places}
use Rattle.gopher_page.proofs.Distinct.{insert_all-distinct}
use Rattle.indexmap.specs.IndexSet.{insert_all}
use Rattle.gopher_page.proofs.links.links_of_menu.Goals as goal

pub returns : goal.returns
returns c =
    let places = allowed_places c.args.scope.now (entries_of (lines_of c.args.menu.now)) in
    subst (λ keys. IfOk c.packed.result (λ links. links ≡ keys))
    (c.into_iter.ensures.into_iter_gives.0 ∙ c.in_ok-add_links.ensures ∙ ap (λ held. insert_all same_place held places) c.new-places.ensures.empty ∙ insert_all-distinct places)
    c.packed.ensures
