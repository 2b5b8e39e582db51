-- The places that workers are fetching, and which of them are slow.
use Rattle.std.specs.Prelude.{◌-◌, ◌*◌, Bool, ◌&&◌, not, nat_lt}
use Rattle.std.specs.Time.{instant_nanos}
use Rattle.std.specs.declared.time.Instant.{Instant}
use Rattle.gopher_hole.specs.declared.progress.outs.Out.{Out}

-- a place has been out for longer than 10 seconds, and wasn't printed before
abbrev pub is_slow : Out → Instant → Bool
is_slow out now =
    not out.is_told && nat_lt (10 * 1_000_000_000) (instant_nanos now - instant_nanos out.began)
