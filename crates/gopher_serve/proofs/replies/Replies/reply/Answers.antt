use Rattle.std.proofs.Common.{rules, refl, sym, ◌∙◌}
use Rattle.gopher_serve.proofs.KeptLemmas.{reply_of_none, reply_of_file}
use Rattle.gopher_serve.proofs.replies.Replies.reply.Goals as goal

pub returns-in-None : goal.returns-in-None
returns-in-None c = (search rules ∙ sym (reply_of_none c.args.self.now.files c.args.self.now.home c.args.selector.now (search rules)), refl)

pub returns-in-Some-File : goal.returns-in-Some-File
returns-in-Some-File c = (sym (reply_of_file c.args.self.now.files c.args.self.now.home c.args.selector.now c.in-Some-File.kind c.in-Some-File.bytes (search rules) (search rules)), refl)
