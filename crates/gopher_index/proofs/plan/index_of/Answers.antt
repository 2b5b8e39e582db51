use Rattle.std.proofs.Common.{refl, sym, subst}
use Rattle.gopher_index.specs.Plan.{SayAlike}
use Rattle.gopher_index.proofs.Groups.{say_alike_push}
use Rattle.gopher_index.proofs.plan.index_of.Goals as goal

pub returns-clause-same : goal.returns-clause-same
returns-clause-same c =
    subst (SayAlike c.args.groups.now.items) (sym c.in_ok-push.ensures.items) (say_alike_push c.args.groups.now.items _ refl refl refl)
