use Rattle.gopher_serve.proofs.Talking.{said_is}
use Rattle.gopher_serve.proofs.conversation.Conversation.say.Goals as goal

pub returns : goal.returns
returns c =
    let inside = c.self.inside in
    said_is inside.gathered.items inside.phase inside.sent c.args.count c.args.self.now c.self.view_is
