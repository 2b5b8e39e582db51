use Rattle.gopher_tree.proofs.LawLemmas as law
use Rattle.gopher_tree.proofs.laws.listings_ascend.Goals as goal

pub returns : goal.returns
returns c = law.listings_ascend
