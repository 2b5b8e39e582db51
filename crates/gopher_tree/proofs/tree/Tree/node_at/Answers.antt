use Rattle.std.proofs.Common.{sym}
use Rattle.gopher_tree.proofs.ReplyLemmas.{shows_folder, shows_none}
use Rattle.gopher_tree.proofs.tree.Tree.node_at.Goals as goal

pub returns-in-None : goal.returns-in-None
returns-in-None c = shows_folder c.args.self.now c.args.path.now (sym c.in-None.ensures) (sym c.if-has_node.ensures.among)

pub returns-in-None-2 : goal.returns-in-None-2
returns-in-None-2 c = shows_none c.args.self.now c.args.path.now (sym c.in-None-2.ensures) (sym c.if-has_node.ensures.among)
