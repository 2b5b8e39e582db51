-- The ends of threads, and of one more.
use Rattle.std.proofs.Common.{◌≡◌, ◌+◌, List, [], ◌∷◌, ◌++◌, length, refl}
use Rattle.std.proofs.lemmas.List.{length-append}
use Rattle.gopher_hole.specs.Ending.{after_thread, after_threads}
use Rattle.gopher_server.specs.declared.server.ThreadEnd.{ThreadEnd}
use Rattle.gopher_hole.specs.declared.starting.ThreadsEnd.{ThreadsEnd}

pub after_threads-more : (end : ThreadsEnd) (ends : List ThreadEnd) (last : ThreadEnd) → after_threads end (ends ++ last ∷ []) ≡ after_thread (after_threads end ends) last
unfolding after_threads
after_threads-more end [] last = refl
after_threads-more end (first ∷ ends) last = after_threads-more (after_thread end first) ends last

pub length-more : (ends : List ThreadEnd) (last : ThreadEnd) → length (ends ++ last ∷ []) ≡ length ends + 1
length-more ends last = length-append ends (last ∷ [])

pub after_threads-none : (end : ThreadsEnd) → end ≡ after_threads end []
unfolding after_threads
after_threads-none end = refl
