-- A conversation over streams, one step after another.
use Rattle.std.specs.Prelude.{◌≡◌, ℕ, ◌+◌, ◌-◌, ◌^◌, ◌<◌, ◌≤◌, ◌⊎◌, Bool, true, List, [], ◌++◌, length, take, Option, Some, Result, Ok, Err, IfSome}
use Rattle.std.specs.IoError.{error_kind}
use Rattle.std.specs.declared.io.Error.{Error}
use Rattle.std.specs.declared.io.ErrorKind.{ErrorKind}
use Rattle.std.specs.declared.io.ErrorKind.TheVariants as kind
use Rattle.std.specs.Io.KnownBytes.{Consumes, IsAtEnd, Keeps}
use Rattle.gopher_bytes.specs.declared.line.TheConstants.{MAX_LINE}
use Rattle.gopher_text.specs.Watched.{WatchedData, CountsFailure, HasFailed, HasRead, HasSent}
use Rattle.gopher_item.specs.Leads.{Leads}
use Rattle.gopher_serve.specs.Talk.{Talk, Gathers, Asks, IsTooLong, LacksMemory, Responds, Hears, HasHeard, HoldsReply, IsAnswering, OnlySearches, heard, said, spoken_of, sendable_of, sent_of, steps_of, unsent_of}
use Rattle.gopher_serve.specs.declared.fault.ServeFault.{ServeFault}
use Rattle.gopher_serve.specs.declared.fault.ServeFault.TheVariants.{LineTooLong, ReadFailed, TooManyTurns, WriteFailed, NoMemory}
use Rattle.gopher_serve.specs.declared.advancing.Progress.{Progress}
use Rattle.gopher_serve.specs.declared.advancing.Progress.TheVariants.{Done, Paused, Works, Waits, Failed}

-- ---- one call

-- the progress of a call that failed
abbrev pub IsProgressAfter : ServeFault → Progress → Type 0
IsProgressAfter fault Done = ⊥
IsProgressAfter fault Works = ⊥
IsProgressAfter fault (Failed why) = why ≡ fault
IsProgressAfter fault progress = Unit {0}

-- the progress after a call that failed in this way
abbrev pub progress_after : ErrorKind → ServeFault → Progress
progress_after kind.Interrupted fault = Paused
progress_after kind.WouldBlock fault = Waits
progress_after why fault = Failed fault

-- the effect of the outcome of one read into a buffer, and the progress after it: the conversation
-- before and after. That no byte was read means the end of the input
abbrev pub HearsOutcome : Talk → Talk → List ℕ → Result ℕ Error → Progress → Type 0
HearsOutcome old new buffer (Ok count) progress =
    (count ≡ 0 → new ≡ heard true old [])
    × (0 < count → Hears old (take count buffer) new)
    × (progress ≡ Paused)
HearsOutcome old new buffer (Err error) progress =
    (new ≡ old) × (progress ≡ progress_after (error_kind error) ReadFailed)

-- the progress after a write, by the rest of the reply
abbrev pub progress_at : Option (List ℕ) → Progress
progress_at (Some []) = Done
progress_at rest = Paused

-- the effect of the outcome of one write, and the progress after it: the conversation before and
-- after. A write that took no byte has failed
abbrev pub Records : Talk → Talk → Result ℕ Error → Progress → Type 0
Records old new (Ok count) progress =
    (count ≡ 0 → (new ≡ old) × (progress ≡ Failed WriteFailed))
    × (0 < count → (new ≡ said old count) × (progress ≡ progress_at (sendable_of new)))
Records old new (Err error) progress =
    (new ≡ old) × (progress ≡ progress_after (error_kind error) WriteFailed)

-- ---- the answers, before and after

module _ {A : Type 0} (gives : A → A → List ℕ → List ℕ → Type 0) where
  -- the effect of asking for the reply to this line, and the progress after it, which says whether
  -- the reply is there. Nothing of it is sent yet
  abbrev pub RepliesToLine : List ℕ → Talk → A → A → Progress → Type 0
  RepliesToLine line new before after progress =
      ((reply : List ℕ) × (steps : ℕ) × gives before after line reply
      × (new ≡ Responds line reply steps 0)
      × (((progress ≡ Paused) × (steps ≡ 0)) ⊎ ((progress ≡ Works) × (0 < steps))))
      ⊎ ((new ≡ Asks line) × (progress ≡ Failed NoMemory))

  -- the effect of asking for the reply, by its progress, if a line is asked
  abbrev pub IsAsked : Talk → Talk → A → A → Progress → Type 0
  IsAsked old new before after progress =
      (line : List ℕ) → old ≡ Asks line → RepliesToLine line new before after progress

  -- one step asks for the reply to a line that is asked, fails if the line is too long or memory
  -- lacks, and else leaves the answers as they are
  abbrev pub AsksOnce : Talk → Talk → A → A → Progress → Type 0
  AsksOnce (Asks line) new before after progress = RepliesToLine line new before after progress
  AsksOnce IsTooLong new before after progress =
      (progress ≡ Failed LineTooLong) × (new ≡ IsTooLong) × (after ≡ before)
  AsksOnce LacksMemory new before after progress =
      (progress ≡ Failed NoMemory) × (new ≡ LacksMemory) × (after ≡ before)
  AsksOnce talk new before after progress = after ≡ before

  -- the line was answered with this reply between two states of the answers
  pub record IsGiven (leads_to : A → A → Type 0) (start now : A)
      (line reply : List ℕ) : Type 0 where
    pub before : A
    pub after : A
    pub begins : Leads leads_to start before
    pub given : gives before after line reply
    pub ends : Leads leads_to after now

  -- the reply that some steps leave is the one that was there, or was given meanwhile
  abbrev pub GivesOn : (A → A → Type 0) → Talk → Talk → A → A → Type 0
  GivesOn leads_to old new before after =
      (line reply : List ℕ) → HoldsReply new line reply
      → HoldsReply old line reply ⊎ IsGiven leads_to before after line reply

-- ---- the streams, before and after

-- the bytes that a reader has left, or that a writer has taken, are given as a function of it
module _ {D : Type 0} (known : D → Option (List ℕ)) where
  -- a call failed and changed nothing except the count of failures
  pub record IsStill (old new : Talk) (before after : WatchedData D) : Type 0 where
    pub talk : new ≡ old
    pub bytes : Keeps (known before.device) (known after.device)
    pub count : CountsFailure before.failures after.failures

  -- a piece was read and added to the conversation
  pub record HearsPiece (old new : Talk) (had left : WatchedData D) : Type 0 where
    pub piece : List ℕ
    pub some : 0 < length piece
    pub read : HasRead known had left piece
    pub hears : Hears old piece new
    pub count : left.failures ≡ had.failures

  -- a read reached the end of the input
  pub record HearsEnd (old new : Talk) (had left : WatchedData D) : Type 0 where
    pub read : HasRead known had left []
    pub ended : IsAtEnd (known left.device)
    pub hears : new ≡ heard true old []
    pub count : left.failures ≡ had.failures

  -- the effect of one read, and the progress after it
  abbrev pub Listens : Talk → Talk → WatchedData D → WatchedData D → Progress → Type 0
  Listens old new had left progress =
      (HearsPiece old new had left × (progress ≡ Paused))
      ⊎ ((HearsEnd old new had left × (progress ≡ Paused))
      ⊎ (IsStill old new had left × IsProgressAfter ReadFailed progress))

  -- one step reads once while the line isn't at its end, and else nothing
  abbrev pub HearsOnce : Talk → Talk → WatchedData D → WatchedData D → Progress → Type 0
  HearsOnce (Gathers bytes) new had left progress = Listens (Gathers bytes) new had left progress
  HearsOnce talk new had left progress = left ≡ had

  -- the state of a conversation agrees with the bytes that the reader had at first and has left
  pub record HasTaken (had : Option (List ℕ)) (reader : WatchedData D) (talk : Talk) : Type 0 where
    pub taken : List ℕ
    pub ended : Bool
    pub consumed : Consumes had (known reader.device) taken
    pub all_taken : ended ≡ true → IfSome had (λ all. all ≡ taken)
    pub heard : HasHeard ended taken talk

  -- some steps keep this agreement, however the conversation reached its state
  abbrev pub HearsOn : Talk → Talk → WatchedData D → WatchedData D → Type 0
  HearsOn old new before after =
      (had : Option (List ℕ)) → HasTaken had before old → HasTaken had after new

  -- the next `count` bytes of the reply were written, and nothing else
  pub record SaysSome (old new : Talk) (before after : WatchedData D) : Type 0 where
    pub count : ℕ
    pub ready : steps_of old ≡ 0
    pub some : 0 < count
    pub fits : count ≤ length (unsent_of old)
    pub written : HasSent known before after (take count (unsent_of old))
    pub is : new ≡ said old count
    pub counted : after.failures ≡ before.failures

  -- the effect of one write, or of one step of the search for the reply, and the progress after it:
  -- the whole reply was already written; some of it was written; a step, which writes nothing, left
  -- fewer steps, or as many if it ran out of memory; or the write failed
  abbrev pub Says : Talk → Talk → WatchedData D → WatchedData D → Progress → Type 0
  Says old new before after progress =
      ((new ≡ old) × (steps_of old ≡ 0) × (unsent_of old ≡ []) × (after ≡ before)
      × (progress ≡ Done))
      ⊎ ((SaysSome old new before after
      × ((progress ≡ Paused) ⊎ ((progress ≡ Done) × (unsent_of new ≡ []))))
      ⊎ (((0 < steps_of old) × OnlySearches old new × (after ≡ before)
      × (((progress ≡ Works) × (steps_of new < steps_of old))
      ⊎ ((progress ≡ Failed NoMemory) × (steps_of new ≡ steps_of old))))
      ⊎ (IsStill old new before after × IsProgressAfter WriteFailed progress)))

  -- one step writes once, or searches once, while it answers, and else writes nothing
  abbrev pub SaysOnce : Talk → Talk → WatchedData D → WatchedData D → Progress → Type 0
  SaysOnce (Responds line reply steps sent) new before after progress =
      Says (Responds line reply steps sent) new before after progress
  SaysOnce talk new before after progress = after ≡ before

  -- some steps wrote exactly the bytes by which the sent part of the reply is longer
  abbrev pub SaysOn : Talk → Talk → WatchedData D → WatchedData D → Type 0
  SaysOn old new before after =
      (bytes : List ℕ) × HasSent known before after bytes × (spoken_of new ≡ spoken_of old ++ bytes)

-- ---- the conversation

-- the state of a conversation when it stops, by its progress: the conversation, and the reader and
-- the writer before and after. It never stops at a pause. It takes too many turns only if the
-- failed calls of both, the bytes that were sent, and MAX_LINE + 4 steps before the reply make at
-- least 2^64 - 1
abbrev pub Stops : {R W : Type 0} → Talk → WatchedData R → WatchedData R → WatchedData W
    → WatchedData W → Progress → Type 0
Stops talk had left before after Done = IsAnswering talk × (unsent_of talk ≡ [])
Stops talk had left before after Paused = ⊥
Stops talk had left before after Works = IsAnswering talk
Stops talk had left before after Waits =
    HasFailed had.failures left.failures ⊎ HasFailed before.failures after.failures
Stops talk had left before after (Failed LineTooLong) = talk ≡ IsTooLong
Stops talk had left before after (Failed ReadFailed) = HasFailed had.failures left.failures
Stops talk had left before after (Failed TooManyTurns) =
    2 ^ 64 - 1 ≤ left.failures + after.failures + sent_of talk + (MAX_LINE + 4)
Stops talk had left before after (Failed WriteFailed) = HasFailed before.failures after.failures
Stops talk had left before after (Failed NoMemory) = Unit {0}

-- a change of the conversation alone keeps what was heard, said and given
pub record Upholds (old new : Talk) : Type 0 where
  pub heard : (ended : Bool) (taken : List ℕ) → HasHeard ended taken old → HasHeard ended taken new
  pub said : spoken_of new ≡ spoken_of old
  pub given : (line reply : List ℕ) → HoldsReply new line reply → HoldsReply old line reply
