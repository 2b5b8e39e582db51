-- The lines that tell how far a crawl is.
use Rattle.std.specs.Prelude.{ℕ, Bool, not, ◌&&◌, nat_lt, List, ◌++◌, codes, Option, None, Some, if◌then◌else◌}
use Rattle.std.specs.Fmt.{decimal}

-- the line of the workers that stopped, without its LF
abbrev pub stopped_line : ℕ → List ℕ
stopped_line count = codes "hole: workers that stopped, out of memory: " ++ decimal count

-- the number of stopped workers that is told, if it is larger than the one that was told before
abbrev pub newly_stopped : ℕ → ℕ → Option ℕ
newly_stopped told stopped = if nat_lt told stopped then Some stopped else None

-- whether to tell that pages are past the limit of memory, which is told once
abbrev pub is_limit_due : Bool → ℕ → Bool
is_limit_due told past = not told && nat_lt 0 past
