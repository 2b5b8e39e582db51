-- The hosts whose fetches timed out, and which of their places may be fetched.
use Rattle.std.specs.Prelude.{◌≡◌, ℕ, ◌+◌, ◌-◌, min, ◌^◌, Bool, true, false, List, [], Option, None, Some, nat_lt, nat_le, not, ◌||◌, ◌&&◌, if◌then◌else◌}
use Rattle.std.specs.Time.{instant_nanos}
use Rattle.std.specs.declared.time.Instant.{Instant}
use Rattle.gopher_item.specs.Place.{PlaceData, place_of}
use Rattle.gopher_catalogue.specs.declared.event.Why.{Why}
use Rattle.gopher_hole.specs.declared.fetching.silences.Silence.{Silence}
use Rattle.gopher_hole.specs.declared.fetching.silences.FetchEnd.{FetchEnd}
use Rattle.gopher_hole.specs.declared.fetching.silences.EndNote.{EndNote}
use Rattle.gopher_hole.specs.declared.fetching.silences.Permit.{Permit}
use Rattle.gopher_hole.specs.declared.fetching.silences.Permit.TheVariants as permit
use Rattle.gopher_hole.specs.declared.fetching.cause.Cause.{Cause}
use Rattle.gopher_hole.specs.declared.fetching.cause.Cause.TheVariants as cause
use Rattle.gopher_hole.specs.declared.fetching.crawl_state.Failure.{Failure}

-- what stands for a host: the place of its main menu
abbrev pub host_of : PlaceData → PlaceData
host_of place = place_of 49 [] place.host place.port

-- a host is given up after three time-outs in a row
abbrev pub is_given_up : Silence → Bool
is_given_up silence = nat_le 3 silence.timeouts

-- at least these nanoseconds went by from one time to another
abbrev pub has_passed : ℕ → Instant → Instant → Bool
has_passed nanos earlier later = nat_le nanos (instant_nanos later - instant_nanos earlier)

-- one place at a time of a host that is given up may be fetched: at once after an answer, else a
-- minute after its last time-out
abbrev pub may_retry : Silence → Instant → Bool
may_retry silence now =
    not silence.is_retried
    && (nat_lt 0 silence.answers || has_passed 60_000_000_000 silence.ended now)

-- whether a place of a host may be fetched, by what is noted of the host
abbrev pub permit_of : Option Silence → Instant → Permit
permit_of None now = permit.Free
permit_of (Some silence) now =
    if not (is_given_up silence) then permit.Free
    else (if may_retry silence now then permit.Retry else permit.GivenUp silence.why)

-- what is noted of a host once a place of it is fetched again
abbrev pub retried : Silence → Silence
retried silence = record {
  timeouts = silence.timeouts;
  ended = silence.ended;
  why = silence.why;
  answered = silence.answered;
  answers = silence.answers;
  is_retried = true;
}

-- an answer came by that time
abbrev pub came_by : Option Instant → Instant → Bool
came_by None time = false
came_by (Some answered) time = nat_le (instant_nanos answered) (instant_nanos time)

-- how many fetches in a row timed out before one that began then: none if an answer came between
-- the last of them and this one, unless the host is given up
abbrev pub row_before : Option Silence → Instant → ℕ
row_before None began = 0
row_before (Some silence) began =
    if not (is_given_up silence) && came_by silence.answered began then 0 else silence.timeouts

-- another worker is out with a place of a host that is given up
abbrev pub is_retried_on : Option Silence → Bool → Bool
is_retried_on None is_retry = false
is_retried_on (Some silence) is_retry = silence.is_retried && not is_retry

-- what is noted of a host after a fetch that timed out
abbrev pub after_timeout : Option Silence → FetchEnd → Why → Silence
after_timeout before end why = record {
  timeouts = min (row_before before end.began + 1) (2 ^ 32 - 1);
  ended = end.ended;
  why = why;
  answered = None;
  answers = 0;
  is_retried = is_retried_on before end.is_retry;
}

-- when the first answer after a time-out came, once another came
abbrev pub first_answer : Option Instant → Instant → Option Instant
first_answer None ended = Some ended
first_answer (Some answered) ended = Some answered

-- what is noted of a host that isn't given up after an answer
abbrev pub answered_again : Silence → Instant → Silence
answered_again silence ended = record {
  timeouts = silence.timeouts;
  ended = silence.ended;
  why = silence.why;
  answered = first_answer silence.answered ended;
  answers = silence.answers;
  is_retried = silence.is_retried;
}

-- what is noted of a host that is given up after an answer to a retry: nothing after the third in a
-- row
abbrev pub after_retry : Silence → Option Silence
after_retry silence =
    if nat_le 2 silence.answers then None
    else Some (record {
      timeouts = silence.timeouts;
      ended = silence.ended;
      why = silence.why;
      answered = silence.answered;
      answers = silence.answers + 1;
      is_retried = false;
    })

-- what is noted of a host after an answer; only those to retries count for a host that is given up
abbrev pub after_answer : Option Silence → FetchEnd → Option Silence
after_answer None end = None
after_answer (Some silence) end =
    if not (is_given_up silence) then Some (answered_again silence end.ended)
    else (if end.is_retry then after_retry silence else Some silence)

-- what is noted of a host after a fetch of it, which timed out for a reason or was answered
abbrev pub after_fetch : Option Silence → FetchEnd → Option Why → Option Silence
after_fetch before end None = after_answer before end
after_fetch before end (Some why) = Some (after_timeout before end why)

-- whether a host is given up, by what is noted of it
abbrev pub is_host_given_up : Option Silence → Bool
is_host_given_up None = false
is_host_given_up (Some silence) = is_given_up silence

-- a host that wasn't given up is
abbrev pub becomes_given_up : Option Silence → Option Silence → Bool
becomes_given_up before after = not (is_host_given_up before) && is_host_given_up after

-- what is told of a host after a fetch: whether it became given up by it, and whether it is
pub record IsNote (before after : Option Silence) (note : EndNote) : Type 0 where
  pub becomes : note.becomes_given_up ≡ becomes_given_up before after
  pub stands : note.is_given_up ≡ is_host_given_up after

-- the host didn't say anything in time, or its name has no address
abbrev pub is_silent : Cause → Bool
is_silent cause.TimedOut = true
is_silent cause.NoSuchHost = true
is_silent other = false

-- the step at which a fetch that failed timed out
abbrev pub silent_at : Failure → Option Why
silent_at failure = if is_silent failure.cause then Some failure.why else None
