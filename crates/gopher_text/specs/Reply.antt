-- Reading a stream to its end.
use Rattle.std.specs.Prelude.{◌≡◌, ℕ, ◌+◌, ◌-◌, ◌^◌, ◌<◌, ◌≤◌, ◌⊎◌, List, [], length, take, drop, Option, Result, Ok, Err}
use Rattle.std.specs.Io.KnownBytes.{Keeps, IsAtEnd}
use Rattle.gopher_text.specs.Watched.{WatchedData, CountsFailure, HasFailed, HasRead}
use Rattle.gopher_text.specs.declared.fault.ReplyFault.{ReplyFault}
use Rattle.gopher_text.specs.declared.fault.ReplyFault.TheVariants.{ReadFailed, TooManyTurns, ReplyTooLong, NoMemory}
use Rattle.gopher_text.specs.declared.reading.Reading.{Reading}
use Rattle.gopher_text.specs.declared.reading.Reading.TheVariants.{Took, Ended, Interrupted, Failed}

-- at least this many reads happened, each of which took bytes or failed; or the count of failures
-- is at its maximum
abbrev pub SpendsTurns : ℕ → ℕ → ℕ → ℕ → Type 0
SpendsTurns turns before after taken = (after ≡ 2 ^ 64 - 1) ⊎ (before + turns ≤ after + taken)

-- why reading stopped after these bytes, before the end of the input
abbrev pub RefusesReply : ℕ → ℕ → ℕ → List ℕ → ReplyFault → Type 0
RefusesReply limit before after bytes ReadFailed = (length bytes ≤ limit) × HasFailed before after
RefusesReply limit before after bytes TooManyTurns =
    (length bytes ≤ limit) × HasFailed before after
    × SpendsTurns 2097152 before after (length bytes)
RefusesReply limit before after bytes ReplyTooLong = length bytes ≡ limit + 1
RefusesReply limit before after bytes NoMemory = length bytes ≤ limit

-- the bytes that a reader has left are given as a function of it; then come the reader before and
-- after
module _ {R : Type 0} (remaining : R → Option (List ℕ)) where
  -- the outcome of one read into the buffer after its first `filled` bytes
  abbrev pub ReadsAfter : WatchedData R → WatchedData R → List ℕ → ℕ → Reading → Type 0
  ReadsAfter old new buffer filled (Took count) =
      HasRead remaining old new (take count (drop filled buffer)) × (0 < count)
      × (filled + count ≤ length buffer) × (new.failures ≡ old.failures)
  ReadsAfter old new buffer filled Ended =
      HasRead remaining old new [] × IsAtEnd (remaining new.device) × (new.failures ≡ old.failures)
  ReadsAfter old new buffer filled Interrupted =
      Keeps (remaining old.device) (remaining new.device) × CountsFailure old.failures new.failures
  ReadsAfter old new buffer filled Failed =
      Keeps (remaining old.device) (remaining new.device) × CountsFailure old.failures new.failures

  -- the bytes that a failed call read, by its fault, with this limit
  abbrev pub FailsToReadReply : WatchedData R → WatchedData R → ℕ → ReplyFault → Type 0
  FailsToReadReply old new limit fault =
      (bytes : List ℕ) × HasRead remaining old new bytes
      × RefusesReply limit old.failures new.failures bytes fault

  -- why reading into this buffer stopped, with the number of bytes read and this limit
  abbrev pub StopsFilling : {T : Type 0} → WatchedData R → WatchedData R → ℕ → List ℕ
      → ℕ × Result T ReplyFault → Type 0
  StopsFilling old new limit buffer (filled, Ok value) =
      IsAtEnd (remaining new.device) × (filled ≤ limit)
  StopsFilling old new limit buffer (filled, Err fault) =
      RefusesReply limit old.failures new.failures (take filled buffer) fault
