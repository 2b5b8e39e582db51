use Rattle.std.proofs.Common.{◌∙◌, ap, sym, [], ◌∷◌}
use Rattle.gopher_bytes.specs.Lines.{lines_of}
use Rattle.gopher_item.specs.EntryParts.{entry_lent}
use Rattle.gopher_item.specs.Menu.{entries_of}
use Rattle.gopher_item.specs.Scope.{allows}
use Rattle.gopher_page.specs.Page.{place_of_entry, with_links}
use Rattle.gopher_page.proofs.Distinct.{insert_all-more}
use Rattle.gopher_page.proofs.links.add_links.Goals as goal

pub loop-entry-preserved : goal.loop-entry-preserved
loop-entry-preserved c =
    let scope = c.args.scope.now in
    let left = entries_of (lines_of c.in-Some.after.now) in
    ap (λ keys. with_links scope keys left) c.in_ok-add_link.ensures
    ∙ insert_all-more c.loop-entry.links.keys place_of_entry (allows scope) (entry_lent c.in-Some.entry ∷ []) left
    ∙ ap (with_links scope c.loop-entry.links.keys) (sym c.in-Some.ensures.entry)
    ∙ c.loop-entry.invariant
