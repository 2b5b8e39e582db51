use Rattle.gopher_tree.proofs.LoadLemmas.{loads_on}
use Rattle.gopher_tree.proofs.tree.Tree.load.Goals as goal

pub returns : goal.returns
returns g c = loads_on c.load_along.new.trail c.load_along.result c.load_along.ensures
