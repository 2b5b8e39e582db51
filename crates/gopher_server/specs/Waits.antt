-- How long a server thread may wait for events, in milliseconds.
use Rattle.std.specs.Prelude.{◌≡◌, ℕ, ◌*◌, ◌-◌, ◌==◌, ◌&&◌, ◌||◌, ◌++◌, length, min, Bool, true, if◌then◌else◌, Option, Some}
use Rattle.std.specs.Duration.{as_nanos}
use Rattle.std.specs.Option.{is_some, option_map, option_to_list, unwrap_or}
use Rattle.std.specs.declared.time.Duration.{Duration}
use Rattle.std.specs.List.{reduce}
use Rattle.gopher_server.specs.Accepting.{has_ended, pause_end}
use Rattle.gopher_server.specs.Held.{first_deadline, foremost, held_entries, queue}
use Rattle.gopher_server.specs.ThreadLog as log
use Rattle.gopher_server.specs.declared.decisions.accepting.Accepting.{Accepting}
use Rattle.gopher_server.specs.declared.decisions.held.Held.{Held}
use Rattle.gopher_server.specs.declared.logging.thread_log.ThreadLog.{ThreadLog}

-- a thread has nothing left to do: it accepts no more, and holds no connection
abbrev pub has_no_work : {T : Type 0} → Accepting → Held T → Bool
has_no_work state held = has_ended state && (length (held_entries held) == 0)

-- the shorter of two waits, or the first of two times, of those that there are
abbrev pub shorter : Option ℕ → Option ℕ → Option ℕ
shorter wait other = reduce min (option_to_list wait ++ option_to_list other)

-- not at all while a search waits for its turn; otherwise until there is work: until the end of the
-- pause, until the first deadline, or as long as the log keeps lines
abbrev pub longest_wait : Bool → Option ℕ → Option ℕ → Option ℕ → ℕ → Option ℕ
longest_wait searches resume deadline log now =
    let until = option_map (λ time. time - now) (shorter resume deadline) in
    if searches then Some 0 else shorter until log

-- a thread has something to do at a time: at the end of its pause, or at a deadline
abbrev pub has_times : {T : Type 0} → Accepting → Held T → Bool
has_times state held = is_some (pause_end state) || is_some (first_deadline held)

-- the time is there if a thread has something to do at a time
abbrev pub HasNeededTime : {T : Type 0} → Accepting → Held T → Option ℕ → Type 0
HasNeededTime state held now = has_times state held ≡ true → is_some now ≡ true

-- a thread waits as long as it may at this time of its clock, by its connections, its accepting and
-- the lines of its log
abbrev pub IsLongestWait : {T : Type 0} → Held T → Accepting → ThreadLog → Option ℕ
    → Option Duration → Type 0
IsLongestWait held state thread_log now wait =
    let searches = is_some (foremost (queue held)) in
    option_map as_nanos wait ≡ option_map (λ millis. millis * 1_000_000)
    (longest_wait searches (pause_end state) (first_deadline held)
    (log.poll_timeout thread_log.batch) (unwrap_or now 0))
