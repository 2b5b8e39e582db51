use Rattle.std.proofs.Common.{true}
use Rattle.gopher_tree.proofs.LeavingLemmas.{loads_of}
use Rattle.gopher_tree.proofs.tree.Tree.load_leaving_out.Goals as goal

pub returns-clause-loaded : goal.returns-clause-loaded
returns-clause-loaded g c = loads_of true c.through_root.new.trail c.args.left.now.items c.through_root.new.left.items c.through_root.result c.through_root.ensures
