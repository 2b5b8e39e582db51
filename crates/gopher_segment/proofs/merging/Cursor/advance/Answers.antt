use Rattle.std.proofs.Common.{drop, sym, ap, ◌∙◌}
use Rattle.std.proofs.lemmas.List.{drop-drop}
use Rattle.gopher_segment.proofs.merging.Cursor.advance.Goals as goal

pub returns-then-self-len : goal.returns-then-self-len
returns-then-self-len c = sym (drop-drop 1 c.self.inside.at c.self.inside.table.now) ∙ ap (drop 1) c.self.view_is
