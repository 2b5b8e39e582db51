use Rattle.std.proofs.Common.{◌≡◌, true, string_bytes}
use Rattle.std.specs.List.{All}
use Rattle.gopher_tree.specs.Load.{is_shown}
use Rattle.gopher_tree.proofs.load.folder.push_names.Given as goal

abbrev pub invariant-loop-entry : goal.invariant-loop-entry
invariant-loop-entry g l =
    (goal.iterator-loop-entry g).can_next l.entry-iterator
    × (goal.iterator-loop-entry g).is_finite l.entry-iterator
    × All (λ name. is_shown (string_bytes name) ≡ true) l.names.shown.items
