use Rattle.std.proofs.Common.{sym, ◌∙◌}
use Rattle.std.specs.Prelude.{◌==◌}
use Rattle.gopher_bytes.proofs.Splits.{list_any_found}
use Rattle.gopher_tree.proofs.tree.kind.has_nul.Goals as goal

pub returns : goal.returns
returns c = c.is_some.ensures ∙ sym (list_any_found (λ byte. byte == 0) c.args.bytes.now c.memchr.result c.memchr.ensures)
