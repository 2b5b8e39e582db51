use Rattle.std.proofs.Common.{sym, ◌∙◌}
use Rattle.std.specs.Prelude.{◌==◌, ◌||◌}
use Rattle.gopher_bytes.proofs.Splits.{list_any_found}
use Rattle.gopher_item.proofs.item.has_return_or_nul.Goals as goal

pub returns : goal.returns
returns c = c.is_some.ensures ∙ sym (list_any_found (λ byte. byte == 13 || byte == 0) c.args.line.now c.memchr2.result c.memchr2.ensures)
