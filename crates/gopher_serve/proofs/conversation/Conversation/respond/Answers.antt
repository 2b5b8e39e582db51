use Rattle.std.proofs.Common.{ap, ◌∙◌}
use Rattle.gopher_serve.specs.Answer.{answer_bytes, steps_to_reply}
use Rattle.gopher_serve.specs.Talk.{Responds}
use Rattle.gopher_serve.proofs.Talking.{asked_is}
use Rattle.gopher_serve.proofs.conversation.Conversation.respond.Goals as goal

pub returns : goal.returns
returns c = λ line asks.
    let inside = c.self.inside in
    ap (λ l. Responds l (answer_bytes c.args.answer) (steps_to_reply c.args.answer) 0) (asked_is inside.gathered.items line inside.phase inside.sent (c.self.view_is ∙ asks))
