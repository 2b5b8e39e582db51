use Rattle.std.proofs.Common.{◌≡◌, true, ◌+◌, ◌-◌, ◌*◌, length, string_bytes}
use Rattle.std.specs.List.{All}
use Rattle.std.specs.Vec.Iter.{into_iter_items}
use Rattle.gopher_tree.specs.Load.{is_shown, Lists}
use Rattle.gopher_tree.specs.Leaving.{AreLeftOut}
use Rattle.gopher_tree.proofs.tree.Tree.+walk.Given as goal

abbrev pub decreases-through_folder : goal.decreases-through_folder
decreases-through_folder g l = 4 * (255 - length l.path.now) + 3

abbrev pub decreases-through_visited : goal.decreases-through_visited
decreases-through_visited g l = 4 * (255 - length l.path.now) + 2

abbrev pub decreases-through_names : goal.decreases-through_names
decreases-through_names g l = 4 * (255 - length l.path.now) + 1

abbrev pub decreases-through_name : goal.decreases-through_name
decreases-through_name g l = 4 * (255 - length l.path.now)

abbrev pub invariant-through_names-loop-name : goal.invariant-through_names-loop-name
invariant-through_names-loop-name g l =
    All (λ name. is_shown (string_bytes name) ≡ true) (into_iter_items l.name-iterator) × Lists l.fn.self l.tree × AreLeftOut l.tree l.fn.left.items l.left.items
