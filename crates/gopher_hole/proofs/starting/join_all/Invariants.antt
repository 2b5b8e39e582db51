use Rattle.std.specs.Prelude.{◌≡◌, ℕ, ◌+◌, ◌<◌, List, length, false, slice_index_or}
use Rattle.std.specs.Vec.Iter.{into_iter_items, into_iter_len}
use Rattle.std.specs.PromisedHandle.{KeepsAt}
use Rattle.gopher_hole.specs.Ending.{after_threads}
use Rattle.gopher_server.specs.declared.server.ThreadEnd.{ThreadEnd}
use Rattle.gopher_hole.proofs.starting.join_all.Given as goal

-- the ends of the threads that were joined, in order
abbrev pub invariant-loop-thread : goal.invariant-loop-thread
invariant-loop-thread g l =
    let rest = l.thread-iterator in let first = l.initial.thread-iterator in
    (done : List ThreadEnd)
    × (length done + into_iter_len rest ≡ into_iter_len first)
    × ((k : ℕ) (d : _) → k < into_iter_len rest → slice_index_or (into_iter_items rest) k d ≡ slice_index_or (into_iter_items first) (length done + k) d)
    × ((k : ℕ) (x : ThreadEnd) → k < length done → KeepsAt g.P.Promise (into_iter_items first) k (slice_index_or done k x))
    × (l.end ≡ after_threads (record { failed = false; is_short = l.fn.started.is_short }) done)
