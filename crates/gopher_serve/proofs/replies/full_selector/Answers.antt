use Rattle.std.proofs.Common.{rules}
use Rattle.gopher_serve.proofs.KeptLemmas.{reply_root}
use Rattle.gopher_serve.proofs.replies.full_selector.Goals as goal

pub returns-in-empty : goal.returns-in-empty
returns-in-empty c = reply_root c.args.selector.now (search rules)
