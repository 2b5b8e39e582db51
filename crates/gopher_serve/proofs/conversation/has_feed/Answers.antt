use Rattle.gopher_bytes.proofs.Splits.{list_any_found}
use Rattle.std.proofs.Common.{sym, ◌∙◌, ◌==◌}
use Rattle.gopher_serve.proofs.conversation.has_feed.Goals as goal

pub returns : goal.returns
returns c = c.is_some.ensures ∙ sym (list_any_found (λ byte. byte == 10) c.args.bytes.now _ c.memchr.ensures)
