-- The least time between the beginnings of two fetches of one host.
use Rattle.std.specs.Prelude.{◌≡◌, ℕ, ◌+◌, max, Option, None, Some}
use Rattle.std.specs.Duration.{as_nanos}
use Rattle.std.specs.Time.{FitsClock, instant_nanos}
use Rattle.std.specs.declared.time.Instant.{Instant}
use Rattle.std.specs.declared.time.Duration.{Duration}

-- when the next fetch may begin: now, or the pause after the last one begins if that is later
abbrev pub next_nanos : Option Instant → Duration → Instant → ℕ
next_nanos None pause now = instant_nanos now
next_nanos (Some last) pause now = max (instant_nanos now) (instant_nanos last + as_nanos pause)

-- the time is that one, as far as the clock counts
abbrev pub IsNextBegin : Option Instant → Duration → Instant → Instant → Type 0
IsNextBegin last pause now next =
    FitsClock (next_nanos last pause now) → instant_nanos next ≡ next_nanos last pause now
