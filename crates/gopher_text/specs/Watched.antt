-- Readers and writers that count their failed calls.
use Rattle.std.specs.Prelude.{◌≡◌, ℕ, ◌+◌, ◌-◌, ◌^◌, ◌<◌, ◌≤◌, ◌⊎◌, List, length, take, Option, Result, Ok, Err}
use Rattle.std.specs.Io.KnownBytes.{Appends, Consumes, ReadConsumes, WriteAppends}
use Rattle.gopher_text.specs.declared.fault.SendFault.{SendFault}

-- a reader or a writer, and the number of its failed calls
pub record WatchedData (D : Type 0) : Type 0 where
  pub device : D
  pub failures : ℕ

-- the bytes that a device has left to read, or has taken, are given as a function of it; then come
-- the reader or writer before and after
module _ {D : Type 0} (known : D → Option (List ℕ)) where
  -- exactly these bytes were read
  abbrev pub HasRead : WatchedData D → WatchedData D → List ℕ → Type 0
  HasRead old new bytes = Consumes (known old.device) (known new.device) bytes

  -- exactly these bytes were written
  abbrev pub HasSent : WatchedData D → WatchedData D → List ℕ → Type 0
  HasSent old new bytes = Appends (known old.device) (known new.device) bytes

  -- exactly the first of these bytes were written, as many as the fault says
  abbrev pub HasSentPart : WatchedData D → WatchedData D → List ℕ → SendFault → Type 0
  HasSentPart old new bytes fault = HasSent old new (take fault.sent bytes)

  -- the bytes read by a call with this result, which fill the buffer from its start
  abbrev pub Reads : {E : Type 0} → WatchedData D → WatchedData D → Result ℕ E → List ℕ → Type 0
  Reads old new result buffer = ReadConsumes (known old.device) (known new.device) result buffer

  -- the bytes written by a call with this result, from the start of these bytes
  abbrev pub Writes : {E : Type 0} → WatchedData D → WatchedData D → Result ℕ E → List ℕ → Type 0
  Writes old new result bytes = WriteAppends (known old.device) (known new.device) result bytes

-- at most this many failures were counted in between: the reader or writer before and after
abbrev pub FailsAtMost : {D : Type 0} → WatchedData D → WatchedData D → ℕ → Type 0
FailsAtMost old new limit = (old.failures ≤ new.failures) × (new.failures ≤ old.failures + limit)

-- one more failure, unless the count is at its maximum
abbrev pub CountsFailure : ℕ → ℕ → Type 0
CountsFailure before after =
    ((before < 2 ^ 64 - 1) × (after ≡ before + 1)) ⊎ ((before ≡ 2 ^ 64 - 1) × (after ≡ before))

-- a call failed in between, or the count was at its maximum before
abbrev pub HasFailed : ℕ → ℕ → Type 0
HasFailed before after = (before < after) ⊎ (before ≡ 2 ^ 64 - 1)

-- a call failed if it returns an error
abbrev pub CountsErrors : {T E : Type 0} → ℕ → ℕ → Result T E → Type 0
CountsErrors before after (Ok value) = after ≡ before
CountsErrors before after (Err error) = CountsFailure before after

-- a write failed if it returns an error, or takes none of one or more bytes
abbrev pub CountsWrite : {E : Type 0} → ℕ → ℕ → List ℕ → Result ℕ E → Type 0
CountsWrite before after bytes (Ok taken) =
    ((taken ≡ 0) × (0 < length bytes) × CountsFailure before after)
    ⊎ (((0 < taken) ⊎ (length bytes ≡ 0)) × (after ≡ before))
CountsWrite before after bytes (Err error) = CountsFailure before after
