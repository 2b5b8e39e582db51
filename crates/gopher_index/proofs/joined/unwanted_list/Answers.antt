use Rattle.std.proofs.Common.{sym, ◌∙◌, arith}
use Rattle.gopher_index.proofs.Unwanted.{unwanted_listed}
use Rattle.gopher_index.proofs.joined.unwanted_list.Goals as goal

pub returns : goal.returns
returns c = unwanted_listed c.args.group.now c.args.part.now.pages c.word.result.now c.postings.result (omega arith) (omega arith) (sym c.is_prefix.ensures ∙ c.if-is_prefix.false) c.word.ensures c.postings.ensures.run c.postings.ensures.beside
