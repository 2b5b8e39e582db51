-- What one conversation read and wrote, by how it ended.
use Rattle.std.specs.Prelude.{◌≡◌, ℕ, ◌<◌, List, length, take, Option, Result, Ok, Err}
use Rattle.gopher_text.specs.Line.{FailsToReadLine, ReadsLine}
use Rattle.gopher_text.specs.Watched.{WatchedData, HasFailed, HasSent}
use Rattle.gopher_text.specs.declared.fault.LineFault.TheVariants as line_fault
use Rattle.gopher_serve.specs.declared.fault.ServeFault.{ServeFault}
use Rattle.gopher_serve.specs.declared.fault.ServeFault.TheVariants.{LineTooLong, ReadFailed, TooManyTurns, WriteFailed, NoMemory}

-- exactly the first line and its end were read, whether or not its reply was sent, unless reading
-- it failed: the reader before and after
abbrev pub HearsRequest : {R T : Type 0} → (R → Option (List ℕ)) → WatchedData R → WatchedData R
    → Result T ServeFault → Type 0
HearsRequest remaining old new (Err LineTooLong) =
    FailsToReadLine remaining old new line_fault.LineTooLong
HearsRequest remaining old new (Err ReadFailed) =
    FailsToReadLine remaining old new line_fault.ReadFailed
HearsRequest remaining old new (Err TooManyTurns) =
    FailsToReadLine remaining old new line_fault.TooManyTurns
HearsRequest remaining old new end = ReadsLine remaining old new

-- the reply to a line that is asked was written, a prefix of it if a write failed, and else
-- nothing: the writer before and after
abbrev pub SendsReply : {W T : Type 0} → (List ℕ → Type 0) → (List ℕ → List ℕ → Type 0)
    → (W → Option (List ℕ)) → WatchedData W → WatchedData W → Result T ServeFault → Type 0
SendsReply asks gives contents old new (Ok end) =
    (line : List ℕ) × (reply : List ℕ) × asks line × gives line reply
    × HasSent contents old new reply
SendsReply asks gives contents old new (Err WriteFailed) =
    (line : List ℕ) × (reply : List ℕ) × (sent : ℕ) × asks line × gives line reply
    × HasSent contents old new (take sent reply) × (sent < length reply)
    × HasFailed old.failures new.failures
SendsReply asks gives contents old new (Err fault) = new ≡ old

-- the faults before the reply was asked for
abbrev pub IsUnheard : ServeFault → Type 0
IsUnheard WriteFailed = ⊥
IsUnheard NoMemory = ⊥
IsUnheard fault = Unit {0}
