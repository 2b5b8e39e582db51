-- Reading one line of a stream.
use Rattle.std.specs.Prelude.{◌≡◌, ℕ, ◌+◌, ◌<◌, ◌≤◌, ◌⊎◌, false, List, [], ◌∷◌, ◌++◌, length, take, Option, Result, Ok, Err, IfSome, if◌then◌else◌}
use Rattle.std.specs.Io.BufRead.{take_through, first_line, ends_with_byte, strip_last, DropsThrough}
use Rattle.std.specs.Io.KnownBytes.{Consumes, IsAtEnd}
pub use Rattle.gopher_bytes.specs.Lines.{has_feed}
use Rattle.gopher_bytes.specs.declared.line.TheConstants.{MAX_LINE}
use Rattle.gopher_text.specs.Watched.{WatchedData, HasFailed, HasRead}
use Rattle.gopher_text.specs.Reply.{SpendsTurns}
use Rattle.gopher_text.specs.declared.fault.LineFault.{LineFault}
use Rattle.gopher_text.specs.declared.fault.LineFault.TheVariants.{LineTooLong, ReadFailed, TooManyTurns, NoMemory}

-- the bytes of a line without its end
abbrev pub without_end : List ℕ → List ℕ
without_end bytes =
    if ends_with_byte 10 bytes then strip_last 13 (strip_last 10 bytes) else strip_last 10 bytes

-- the bytes are a line with its only LF at the end, or all bytes up to the end of the input
abbrev pub IsWholeLine : Option (List ℕ) → List ℕ → Type 0
IsWholeLine new bytes =
    ((front : List ℕ) × (bytes ≡ front ++ 10 ∷ []) × (has_feed front ≡ false))
    ⊎ ((has_feed bytes ≡ false) × IsAtEnd new)

-- the bytes are a part of a line before its LF, and a read failed
abbrev pub IsPartOfLine : ℕ → ℕ → List ℕ → Type 0
IsPartOfLine before after bytes =
    (has_feed bytes ≡ false) × (length bytes ≤ 1025) × HasFailed before after

-- the bytes that a failed call read: at most 1,026 of a line that is too long, a part of the line
-- if reads failed, and the line with its end if out of memory
abbrev pub RefusesLine : Option (List ℕ) → Option (List ℕ) → ℕ → ℕ → LineFault → Type 0
RefusesLine old new before after LineTooLong =
    IfSome old (λ bytes. (MAX_LINE < length (first_line bytes))
    × Consumes old new (take 1026 (take_through 10 bytes)))
RefusesLine old new before after ReadFailed =
    (bytes : List ℕ) × Consumes old new bytes × IsPartOfLine before after bytes
RefusesLine old new before after TooManyTurns =
    (bytes : List ℕ) × Consumes old new bytes × IsPartOfLine before after bytes
    × SpendsTurns 4096 before after (length bytes)
RefusesLine old new before after NoMemory =
    IfSome old (λ bytes. length (first_line bytes) ≤ MAX_LINE) × DropsThrough old new 10

-- the number of bytes taken and the failures counted in between are at most this many together: the
-- reader before and after
abbrev pub TakesAndFailsAtMost : {R : Type 0} → WatchedData R → WatchedData R → ℕ → ℕ → Type 0
TakesAndFailsAtMost old new taken limit =
    (old.failures ≤ new.failures) × (new.failures + taken ≤ old.failures + limit)

-- the bytes that a reader has left are given as a function of it; then come the reader before and
-- after (of `IsNextLine`, the reader before)
module _ {R : Type 0} (remaining : R → Option (List ℕ)) where
  -- why reading stopped after these bytes of a line
  abbrev pub StopsInLine : {T : Type 0} → WatchedData R → WatchedData R → List ℕ
      → Result T LineFault → Type 0
  StopsInLine old new bytes (Ok value) = IsWholeLine (remaining new.device) bytes
  StopsInLine old new bytes (Err LineTooLong) = (has_feed bytes ≡ false) × (length bytes ≡ 1026)
  StopsInLine old new bytes (Err ReadFailed) = IsPartOfLine old.failures new.failures bytes
  StopsInLine old new bytes (Err TooManyTurns) =
      IsPartOfLine old.failures new.failures bytes
      × SpendsTurns 4096 old.failures new.failures (length bytes)
  StopsInLine old new bytes (Err NoMemory) = ⊥

  -- the line is the reader's next one, without its end
  abbrev pub IsNextLine : WatchedData R → List ℕ → Type 0
  IsNextLine reader line = IfSome (remaining reader.device) (λ bytes. line ≡ first_line bytes)

  -- exactly the next line and its end were read
  abbrev pub ReadsLine : WatchedData R → WatchedData R → Type 0
  ReadsLine old new = DropsThrough (remaining old.device) (remaining new.device) 10

  -- the bytes that a failed call read, by its fault
  abbrev pub FailsToReadLine : WatchedData R → WatchedData R → LineFault → Type 0
  FailsToReadLine old new fault =
      RefusesLine (remaining old.device) (remaining new.device) old.failures new.failures fault

  -- the bytes read and the failures counted in between are at most this many together
  abbrev pub ReadsAndFailsAtMost : WatchedData R → WatchedData R → ℕ → Type 0
  ReadsAndFailsAtMost old new limit =
      (bytes : List ℕ) × HasRead remaining old new bytes
      × TakesAndFailsAtMost old new (length bytes) limit
