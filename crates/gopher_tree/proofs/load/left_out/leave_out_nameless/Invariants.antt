use Rattle.std.proofs.Common.{◌≡◌, ◌+◌, length}
use Rattle.gopher_tree.specs.Leaving.{AddsUnreadable}
use Rattle.gopher_tree.proofs.load.left_out.leave_out_nameless.Given as goal

abbrev pub invariant-loop-index : goal.invariant-loop-index
invariant-loop-index l =
    AddsUnreadable l.fn.left.items l.left.items l.path l.number
    × (length l.left.items ≡ length l.fn.left.items + l._index)
