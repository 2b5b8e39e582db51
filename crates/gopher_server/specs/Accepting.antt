-- Whether a server thread accepts connections, and what a failed accept means.
use Rattle.std.specs.Prelude.{ℕ, ◌+◌, ◌^◌, ◌-◌, ◌==◌, Bool, true, false, not, ◌&&◌, ◌||◌, nat_le, nat_lt, min, if◌then◌else◌, Option, None, Some}
use Rattle.gopher_server.specs.declared.decisions.accepting.Accepting.{Accepting}
use Rattle.gopher_server.specs.declared.decisions.accepting.Accepting.TheVariants.{Watches, Leaves, Pauses, Ended}
use Rattle.gopher_server.specs.declared.decisions.accepting.AcceptEvent.{AcceptEvent}
use Rattle.gopher_server.specs.declared.decisions.accepting.AcceptEvent.TheVariants.{IsShort, Ends, Round}
use Rattle.gopher_server.specs.declared.decisions.accepting.AcceptDuty.{AcceptDuty}
use Rattle.gopher_server.specs.declared.decisions.accepting.AcceptDuty.TheVariants.{Nothing, Watch, HandOver, End}
use Rattle.gopher_server.specs.declared.decisions.accepting.AcceptFailure.{AcceptFailure}
use Rattle.gopher_server.specs.declared.decisions.accepting.AcceptFailure.TheVariants as failure
use Rattle.std.specs.declared.ops.Range.{Range}

-- the token of a thread's waker
abbrev pub waker : ℕ
waker = 2 ^ 64 - 1_026

-- the token of the first listener; the others follow, and keys of connections are lower
abbrev pub first_listener : ℕ
first_listener = 2 ^ 64 - 1_025

-- where an event has a thread accept: at all of its listeners if another thread woke it, otherwise
-- at the one that it names
abbrev pub listeners_at : ℕ → ℕ → Option (Range ℕ)
listeners_at token listeners =
    if token == waker then Some (record { start = 0; end = listeners })
    else (if nat_le first_listener token
    then Some (record { start = token - first_listener; end = token - first_listener + 1 })
    else None)

-- after the end of its accepting, a thread accepts nothing more; if descriptors or memory are
-- short, or many connections in a row are lost, it pauses for 100 ms; at the end of a round it
-- leaves new connections to other threads while it holds many more than its share, except that a
-- pause isn't cut short
abbrev pub after_event : Accepting → AcceptEvent → ℕ → Accepting
after_event Ended event now = Ended
after_event state Ends now = Ended
after_event state IsShort now = Pauses (min (now + 100) (2 ^ 64 - 1))
after_event (Pauses until) (Round leaves) now =
    if nat_le until now then Watches else Pauses until
after_event state (Round leaves) now = if leaves then Leaves else Watches

-- whether the system reports to the thread that connections wait
abbrev pub is_watching : Accepting → Bool
is_watching Watches = true
is_watching state = false

abbrev pub has_ended : Accepting → Bool
has_ended Ended = true
has_ended state = false

-- what a change of state asks of a thread: one that watches no longer hands over to the others, and
-- so does one that ends, for good
abbrev pub duty_at : Accepting → Accepting → AcceptDuty
duty_at old new =
    if has_ended new && not (has_ended old) then End
    else (if is_watching old && not (is_watching new) then HandOver
    else (if is_watching new && not (is_watching old) then Watch else Nothing))

-- the end of the pause, if the thread pauses
abbrev pub pause_end : Accepting → Option ℕ
pause_end (Pauses until) = Some until
pause_end state = None

-- ENOMEM, ENFILE, EMFILE, ENOBUFS
abbrev pub is_short : ℕ → Bool
is_short error = (((error == 12) || (error == 23)) || (error == 24)) || (error == 105)

-- 0, EPERM, EINTR, ENONET, EPROTO, ENOPROTOOPT, ENETDOWN, ENETUNREACH, ECONNABORTED, EHOSTDOWN,
-- EHOSTUNREACH
abbrev pub is_lost : ℕ → Bool
is_lost error =
    ((((((((((error == 0) || (error == 1)) || (error == 4)) || (error == 64)) || (error == 71))
    || (error == 92)) || (error == 100)) || (error == 101)) || (error == 103)) || (error == 112))
    || (error == 113)

-- what a connection that is lost means after `lost` others in a row: the 64th is one too many
abbrev pub loss_after : ℕ → AcceptFailure
loss_after lost = if nat_lt lost 63 then failure.IsLost else failure.AreLost

-- what an error of accept(2) means, by its number on Linux, after an accept that failed because
-- descriptors or memory were short, or not, and after `lost` accepts in a row whose connections
-- were lost
abbrev pub failure_of : ℕ → Bool → ℕ → AcceptFailure
failure_of error was_short lost =
    if is_short error then (if was_short then failure.StaysShort else failure.IsShort)
    else (if is_lost error then loss_after lost else failure.IsBroken)

-- whether a failed accept says that descriptors or memory are short; connections that are lost say
-- nothing of that, however many
abbrev pub is_shortage : AcceptFailure → Bool
is_shortage failure.IsShort = true
is_shortage failure.StaysShort = true
is_shortage _ = false
