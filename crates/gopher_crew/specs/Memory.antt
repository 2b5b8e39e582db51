-- What the pages of a crawl take of its memory.
use Rattle.std.specs.Prelude.{ℕ, ◌+◌, Option, None, Some, nat_lt, if◌then◌else◌}

-- what is taken of a limit once `size` bytes more are, if they fit
abbrev pub taken_with : ℕ → ℕ → ℕ → Option ℕ
taken_with limit taken size = if nat_lt limit (taken + size) then None else Some (taken + size)
