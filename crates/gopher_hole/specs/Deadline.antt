-- How long a fetch may take, and each of its steps.
use Rattle.std.specs.Prelude.{◌≡◌, ℕ, ◌-◌, ◌*◌, ◌<◌, ◌≤◌, min, Option, None, Some}
use Rattle.std.specs.Duration.{as_nanos, max_nanos}
use Rattle.std.specs.Time.{instant_nanos}
use Rattle.std.specs.declared.time.Instant.{Instant}
use Rattle.std.specs.declared.time.Duration.{Duration}

-- the nanoseconds that are left of a limit, from that time on; all of them by a clock that went
-- back
abbrev pub nanos_left : Instant → ℕ → Instant → ℕ
nanos_left began limit now = limit - (instant_nanos now - instant_nanos began)

-- a fetch may take ten times as long as a step of it
abbrev pub whole_nanos : Duration → ℕ
whole_nanos step = min (as_nanos step * 10) max_nanos

-- a step that begins now may take the time of a step, or what is left of the whole if that is less
abbrev pub wait_nanos : Instant → Duration → Instant → ℕ
wait_nanos began step now = min (as_nanos step) (nanos_left began (whole_nanos step) now)

-- what the system may be asked to wait for a step: for ever if that takes no time, and else more
-- than no time and at most that
abbrev pub AllowsWait : Duration → Option Duration → Type 0
AllowsWait step None = as_nanos step ≡ 0
AllowsWait step (Some wait) = (0 < as_nanos wait) × (as_nanos wait ≤ as_nanos step)
