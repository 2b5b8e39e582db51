use Rattle.std.proofs.Common.{rules}
use Rattle.gopher_tree.proofs.LoadLemmas.{taken}
use Rattle.gopher_tree.proofs.load.folder.read_most.Goals as goal

pub returns-in-Ok-clause-read : goal.returns-in-Ok-clause-read
returns-in-Ok-clause-read g c =
    taken g.R.Read.remaining c.args.reader c.args.most c.take.result _ c.take.ensures.limit c.take.ensures.inner (search rules)
