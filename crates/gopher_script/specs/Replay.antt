-- The bytes that a replay reads and writes, for each way in which it ends.
use Rattle.std.specs.Prelude.{◌≡◌, ℕ, ◌<◌, ◌≤◌, ◌⊎◌, List, [], ◌++◌, length, Option, None, Some, Result, Ok, Err}
use Rattle.std.specs.Io.KnownBytes.{Appends, Consumes, IsAtEnd, Keeps}
use Rattle.gopher_text.specs.Reply.{SpendsTurns}
use Rattle.gopher_text.specs.Watched.{WatchedData, HasFailed}
use Rattle.gopher_text.specs.declared.reply_reader.TheConstants.{MAX_REPLY}
use Rattle.gopher_script.specs.Command.{StatementData}
use Rattle.gopher_script.specs.Script.{RunData, script_output, statement_step}
use Rattle.gopher_script.specs.declared.stage.Stage.{Stage}
use Rattle.gopher_script.specs.declared.fault.ReplayFault.{ReplayFault}
use Rattle.gopher_script.specs.declared.fault.ReplayFault.TheVariants.{ReadFailed, TooManyTurns, ReplyTooLong, WriteFailed, BadScript, NoMemory}

-- a prefix of these bytes was written
abbrev pub AppendsPart : Option (List ℕ) → Option (List ℕ) → List ℕ → Type 0
AppendsPart old new bytes =
    (written : List ℕ) × (rest : List ℕ) × (bytes ≡ written ++ rest) × Appends old new written

-- the bytes that a run wrote: all of its output if it succeeds or stops at its bad line, and a
-- prefix of it if a write fails or it is out of memory; the contents of the writer and its count of
-- failures are given before and after
abbrev pub RunEnds : {T : Type 0} → RunData → Option (List ℕ) → Option (List ℕ) → ℕ → ℕ
    → Result T ReplayFault → Type 0
RunEnds run old new before after (Ok end) =
    (run.bad_line ≡ None) × Appends old new run.output × (before ≤ after)
RunEnds run old new before after (Err (BadScript line)) =
    (run.bad_line ≡ Some line) × Appends old new run.output
RunEnds run old new before after (Err WriteFailed) =
    AppendsPart old new run.output × HasFailed before after
RunEnds run old new before after (Err NoMemory) = AppendsPart old new run.output
RunEnds run old new before after (Err fault) = ⊥

-- the bytes of one answer that were written, with the writer's contents and count of failures
abbrev pub AnswerEnds : {T : Type 0} → List ℕ → Option (List ℕ) → Option (List ℕ) → ℕ → ℕ
    → Result T ReplayFault → Type 0
AnswerEnds answer old new before after (Ok end) = Appends old new answer × (before ≤ after)
AnswerEnds answer old new before after (Err WriteFailed) =
    AppendsPart old new answer × HasFailed before after × (before ≤ after)
AnswerEnds answer old new before after (Err fault) = ⊥

-- the bytes of one statement's answer that were written, and the next stage if it succeeds
abbrev pub StatementEnds : Stage → StatementData → Option (List ℕ) → Option (List ℕ) → ℕ → ℕ
    → Result Stage ReplayFault → Type 0
StatementEnds stage statement old new before after (Ok next) =
    (answer : List ℕ) × (statement_step stage statement ≡ Some (answer, next))
    × Appends old new answer × (before ≤ after)
StatementEnds stage statement old new before after (Err (BadScript line)) =
    (statement_step stage statement ≡ None) × (line ≡ statement.number) × Appends old new []
StatementEnds stage statement old new before after (Err WriteFailed) =
    (answer : List ℕ) × (next : Stage) × (statement_step stage statement ≡ Some (answer, next))
    × AppendsPart old new answer × HasFailed before after × (before ≤ after)
StatementEnds stage statement old new before after (Err NoMemory) = Appends old new []
StatementEnds stage statement old new before after (Err fault) = ⊥

-- the end of a replay that has read these bytes of the script: the bytes left to read, the reader's
-- count of failures before and after, and the writer's contents and count of failures before and
-- after
abbrev pub ReplayEnds : {T : Type 0} → List ℕ → Option (List ℕ) → ℕ → ℕ → Option (List ℕ)
    → Option (List ℕ) → ℕ → ℕ → Result T ReplayFault → Type 0
ReplayEnds bytes left missed missing old new before after (Ok end) =
    (length bytes ≤ MAX_REPLY) × IsAtEnd left
    × RunEnds (script_output bytes) old new before after (Ok end)
ReplayEnds bytes left missed missing old new before after (Err (BadScript line)) =
    (length bytes ≤ MAX_REPLY) × IsAtEnd left
    × RunEnds {T = Unit {0}} (script_output bytes) old new before after (Err (BadScript line))
ReplayEnds bytes left missed missing old new before after (Err WriteFailed) =
    (length bytes ≤ MAX_REPLY) × IsAtEnd left
    × RunEnds {T = Unit {0}} (script_output bytes) old new before after (Err WriteFailed)
ReplayEnds bytes left missed missing old new before after (Err NoMemory) =
    (length bytes ≤ MAX_REPLY)
    × ((IsAtEnd left × AppendsPart old new (script_output bytes).output) ⊎ Keeps old new)
ReplayEnds bytes left missed missing old new before after (Err ReplyTooLong) =
    (MAX_REPLY < length bytes) × Keeps old new
ReplayEnds bytes left missed missing old new before after (Err ReadFailed) =
    (length bytes ≤ MAX_REPLY) × HasFailed missed missing × Keeps old new
ReplayEnds bytes left missed missing old new before after (Err TooManyTurns) =
    (length bytes ≤ MAX_REPLY) × HasFailed missed missing
    × SpendsTurns 2097152 missed missing (length bytes) × Keeps old new

-- one answer is sent: the writer before and after
abbrev pub SendsAnswer : {W T : Type 0} → (W → Option (List ℕ)) → List ℕ
    → WatchedData W → WatchedData W → Result T ReplayFault → Type 0
SendsAnswer contents answer old new end =
    AnswerEnds answer (contents old.device) (contents new.device) old.failures new.failures end

-- one statement is run at this stage: the writer before and after
abbrev pub RunsStatement : {W : Type 0} → (W → Option (List ℕ)) → Stage → StatementData
    → WatchedData W → WatchedData W → Result Stage ReplayFault → Type 0
RunsStatement contents stage statement old new end =
    StatementEnds stage statement (contents old.device) (contents new.device)
    old.failures new.failures end

-- a script of these bytes is run: the writer before and after
abbrev pub RunsScript : {W T : Type 0} → (W → Option (List ℕ)) → List ℕ
    → WatchedData W → WatchedData W → Result T ReplayFault → Type 0
RunsScript contents bytes old new end =
    RunEnds (script_output bytes) (contents old.device) (contents new.device)
    old.failures new.failures end

-- a replay: the reader before and after, and the writer before and after
abbrev pub Replays : {R W T : Type 0} → (R → Option (List ℕ)) → (W → Option (List ℕ))
    → WatchedData R → WatchedData R → WatchedData W → WatchedData W → Result T ReplayFault → Type 0
Replays remaining contents had left old new end =
    (bytes : List ℕ) × Consumes (remaining had.device) (remaining left.device) bytes
    × ReplayEnds bytes (remaining left.device) had.failures left.failures
    (contents old.device) (contents new.device) old.failures new.failures end
