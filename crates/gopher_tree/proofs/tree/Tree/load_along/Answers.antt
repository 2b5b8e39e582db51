use Rattle.std.proofs.Common.{false}
use Rattle.gopher_tree.proofs.LeavingLemmas.{loads_of}
use Rattle.gopher_tree.proofs.tree.Tree.load_along.Goals as goal

pub returns : goal.returns
returns g c = loads_of false c.through_root.new.trail c.new-left.result.items c.through_root.new.left.items c.through_root.result c.through_root.ensures
