use Rattle.std.proofs.Common.{rules}
use Rattle.gopher_tree.proofs.tree.nodes.push_paths.Goals as goal

pub returns : goal.returns
returns c = record { all = search rules; order = c.keys-path-items.ensures.ordered }
