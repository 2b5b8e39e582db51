use Rattle.std.specs.Prelude.{◌≡◌, ◌+◌, false, vec_len}
use Rattle.std.specs.Vec.Iter.{into_iter_len}
use Rattle.gopher_hole.proofs.starting.start_threads.Given as goal

-- unless a thread couldn't be started, there is one for each pass so far
abbrev pub invariant-loop-pass : goal.invariant-loop-pass
invariant-loop-pass g l =
    l.is_short ≡ false → vec_len l.threads + into_iter_len l.pass-iterator ≡ into_iter_len l.initial.pass-iterator
