use Rattle.std.proofs.Common.{sym, ◌∙◌}
use Rattle.gopher_index.specs.Best.{hit_with}
use Rattle.gopher_index.proofs.TieLemmas.{beyond_takes}
use Rattle.gopher_index.proofs.ties.Ties.insert.Goals as goal

pub returns-then-covers-clause-takes : goal.returns-then-covers-clause-takes
returns-then-covers-clause-takes c = λ page found.
    beyond_takes c.args.best.now (hit_with c.args.score page) (c.requires.ties.beyond c.args.index c.args.score page found (sym c.covers.ensures ∙ c.if-covers.true))
