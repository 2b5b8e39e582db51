use Rattle.std.proofs.Common.{map}
use Rattle.gopher_tree.proofs.PathsLemmas.{nodes_if_ok}
use Rattle.gopher_tree.proofs.tree.Tree.paths.Goals as goal

pub returns : goal.returns
returns c = nodes_if_ok (λ paths. map (λ path. path.now) paths.items) c.self.inside.files.items c.args.self.now c.self.inside.nodes c.paths_in.result c.self.view_is c.self.invariant.paths c.paths_in.ensures
