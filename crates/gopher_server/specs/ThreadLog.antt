-- The lines of a server thread, until it hands them on.
use Rattle.std.specs.Prelude.{◌≡◌, ◌⊎◌, ℕ, ◌+◌, ◌-◌, ◌/◌, ◌^◌, ◌<◌, ◌≤◌, min, nat_le, pos, Bool, true, false, IfSome, MatchOption, List, Option, None, Some, if◌then◌else◌}
use Rattle.std.specs.Duration.{as_nanos}
use Rattle.std.specs.Time.{instant_nanos}
use Rattle.std.specs.declared.time.Duration.{Duration}
use Rattle.std.specs.declared.time.Instant.{Instant}
use Rattle.std.specs.Net.Text.{ip_text}
use Rattle.jiff_core.specs.DateTime.{civil_nanos}
use Rattle.jiff_core.specs.declared.civil.datetime.DateTime.{DateTime}
use Rattle.gopher_text.specs.Watched.{CountsFailure, HasFailed}
use Rattle.gopher_serve.specs.Talk.{Talk, asked_of, sent_of}
use Rattle.gopher_server.specs.RequestLine.{RequestData, request_with}
use Rattle.gopher_server.specs.Batch.{AddsLineTo, BatchData, is_empty, is_full, no_lines, receipt_of, with_dropped}
use Rattle.gopher_server.specs.declared.logging.thread_log.Accepted.{Accepted}
use Rattle.gopher_server.specs.declared.logging.thread_log.RequestEnd.{RequestEnd}
use Rattle.gopher_server.specs.declared.logging.thread_log.ThreadLog.{ThreadLog}

-- the whole microseconds of a time, at most 2^64 - 1
abbrev pub micros_of : Duration → ℕ
micros_of time = min (as_nanos time / 1_000) (2 ^ 64 - 1)

-- the whole microseconds from one time to another
abbrev pub micros_between : Instant → Instant → ℕ
micros_between began at = min ((instant_nanos at - instant_nanos began) / 1_000) (2 ^ 64 - 1)

-- the moment at a time after the beginning of 1970, if that is before the year 10000
abbrev pub IsMomentAt : Duration → Option DateTime → Type 0
IsMomentAt since moment =
    let nanos = as_nanos since in
    MatchOption moment (253_402_300_799_999_999_999 < nanos) (λ at. civil_nanos at ≡ pos nanos)

-- lines are kept since the time at which the first of them was added
abbrev pub since_with : Option Instant → Instant → Option Instant
since_with None now = Some now
since_with (Some since) now = Some since

-- a time since which lines are kept stays
abbrev pub KeepsSince : Option Instant → Option Instant → Type 0
KeepsSince before after = IfSome before (λ since. after ≡ Some since)

-- lines that are kept since a time are handed on 250 ms later
abbrev pub is_due : Option Instant → Instant → Bool
is_due None now = false
is_due (Some since) now = nat_le (instant_nanos since + 250_000_000) (instant_nanos now)

-- lines wait for 250 ms at most; without lines there is nothing to wait for
abbrev pub poll_timeout : BatchData → Option ℕ
poll_timeout batch = if is_empty batch then None else Some 250

-- a request from an address, with this line asked and this many bytes sent: what the log says of it
-- if its connection was accepted at one time and ended at the other
abbrev pub logged_request : Accepted → List ℕ → ℕ → RequestEnd → RequestData
logged_request accepted asked sent end =
    request_with end.moment (ip_text accepted.peer) asked sent
    (micros_between accepted.began end.at)

-- the lines were handed on whole, as the queue's receipt says
abbrev pub HandsOn : ThreadLog → ThreadLog → Type 0
HandsOn old new = (new.batch ≡ no_lines) × (new.receipt ≡ Some (receipt_of old.batch))

-- the lines were kept whole, without a receipt; if there were any, the refusal was counted
abbrev pub KeepsLines : ThreadLog → ThreadLog → Type 0
KeepsLines old new =
    (new.batch ≡ old.batch) × (new.receipt ≡ old.receipt)
    × (is_empty old.batch ≡ false → HasFailed old.refusals new.refusals)

-- the lines were offered to the queue
abbrev pub OffersLines : ThreadLog → ThreadLog → Type 0
OffersLines old new = (old.refusals ≤ new.refusals) × (HandsOn old new ⊎ KeepsLines old new)

-- the line of a request was added to the lines, or once they were handed on, to none; or the
-- request was counted as dropped, because the queue refused a full batch or memory ran out, which
-- was counted too
abbrev pub AddsLine : RequestData → ThreadLog → ThreadLog → Type 0
AddsLine request old new =
    (between : BatchData)
    × ((between ≡ old.batch) ⊎ ((between ≡ no_lines) × (new.receipt ≡ Some (receipt_of old.batch))))
    × (AddsLineTo request between new.batch
    ⊎ ((new.batch ≡ with_dropped between) × HasFailed old.refusals new.refusals))

-- the same without handing on: a request that a full batch doesn't take is counted as dropped alone
abbrev pub AddsRequest : RequestData → ThreadLog → ThreadLog → Type 0
AddsRequest request old new =
    (old.refusals ≤ new.refusals)
    × (AddsLineTo request old.batch new.batch
    ⊎ ((new.batch ≡ with_dropped old.batch)
    × ((is_full old.batch ≡ true) ⊎ HasFailed old.refusals new.refusals)))

-- a request was counted as dropped, because no clock could be read
abbrev pub DropsRequest : ThreadLog → ThreadLog → Type 0
DropsRequest old new =
    (new.batch ≡ with_dropped old.batch) × CountsFailure old.refusals new.refusals

-- the log gains the line of a request, whenever it ended, or counts it as dropped
abbrev pub LogsLine : Accepted → List ℕ → ℕ → ThreadLog → ThreadLog → Type 0
LogsLine accepted asked sent old new =
    ((end : RequestEnd) × AddsLine (logged_request accepted asked sent end) old new)
    ⊎ DropsRequest old new

-- a connection that was accepted for the log and has asked a line adds that line with the number
-- of bytes that it sent; any other adds nothing
abbrev pub LogsRequest : Option Accepted → Talk → ThreadLog → ThreadLog → Type 0
LogsRequest None talk old new = new ≡ old
LogsRequest (Some accepted) talk old new =
    MatchOption (asked_of talk) (new ≡ old)
    (λ asked. LogsLine accepted asked (sent_of talk) old new)
