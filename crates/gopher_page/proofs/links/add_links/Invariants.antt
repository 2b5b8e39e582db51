use Rattle.std.proofs.Common.{◌≡◌, length}
use Rattle.gopher_bytes.specs.Lines.{lines_of}
use Rattle.gopher_item.specs.Menu.{entries_of}
use Rattle.gopher_page.specs.Page.{with_links}
use Rattle.gopher_page.proofs.links.add_links.Given as goal

abbrev pub invariant-loop-entry : goal.invariant-loop-entry
invariant-loop-entry l = with_links l.scope l.links.keys (entries_of (lines_of l.rest)) ≡ with_links l.scope l.fn.links.keys (entries_of (lines_of l.menu))

abbrev pub decreases-loop-entry : goal.decreases-loop-entry
decreases-loop-entry l = length l.rest
