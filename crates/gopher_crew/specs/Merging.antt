-- When workers may merge pages.
use Rattle.std.specs.Prelude.{ℕ, ◌+◌, Bool, true, false, nat_le, nat_lt, min, if◌then◌else◌}
use Rattle.gopher_crew.specs.declared.working.merging.Merging.{Merging}

-- whether no place waits and none is out, or a run was merged since that was so
abbrev pub is_at_last : Merging → ℕ → ℕ → Bool
is_at_last merging waiting out =
    if nat_lt 0 waiting then merging.is_last_taken
    else (if nat_lt 0 out then merging.is_last_taken else true)

-- whether a run may be merged: the next one after a merge that ran out of memory waits for pages,
-- and without a place that waits only one is merged, once none is out
abbrev pub may_merge : Merging → ℕ → ℕ → ℕ → Bool
may_merge merging waiting out found =
    if nat_lt 0 waiting then nat_le merging.retry_at found
    else (if nat_lt 0 out then false
    else (if merging.is_last_taken then false else nat_le merging.retry_at found))

-- no pages are merged before this number of pages was found: 64 more after a merge that ran out of
-- memory
abbrev pub retry_after : Merging → Bool → ℕ → ℕ
retry_after merging was_merged found =
    if was_merged then merging.retry_at else min (found + 64) 18446744073709551615
