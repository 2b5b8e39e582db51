use Rattle.std.specs.List.{All}
use Rattle.gopher_serve.specs.Kept.{IsReply}
use Rattle.gopher_serve.proofs.kept.kept_replies.Given as goal

abbrev pub invariant-loop-path : goal.invariant-loop-path
invariant-loop-path l =
    (goal.iterator-loop-path).can_next l.path-iterator
    × (goal.iterator-loop-path).is_finite l.path-iterator
    × All (IsReply l.tree l.home) l.kept.items
