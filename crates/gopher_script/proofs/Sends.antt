-- Sending bytes in several parts, and flushing the writer.
use Rattle.std.proofs.Common.{ℕ, ◌≤◌, ◌⊎◌, List, ◌++◌, Option, Result, Ok, Err, sym, ap, ◌∙◌, inl, inr, append_assoc, arith}
use Rattle.std.specs.Io.KnownBytes.{Consumes, IsAtEnd, Keeps}
use Rattle.std.proofs.KnownBytes.{Appends-trans, Appends-kept, Keeps-trans}
use Rattle.gopher_text.specs.Watched.{HasFailed, CountsErrors}
use Rattle.gopher_script.specs.Script.{script_output}
use Rattle.gopher_script.specs.Replay.{AppendsPart, AnswerEnds, ReplayEnds}
use Rattle.gopher_script.specs.declared.fault.ReplayFault.{ReplayFault}
use Rattle.gopher_script.specs.declared.fault.ReplayFault.TheVariants.{ReadFailed, TooManyTurns, ReplyTooLong, WriteFailed, BadScript, NoMemory}
use Rattle.gopher_script.proofs.Runs.{has_failed-since}

-- the first part was sent, and the second was tried
pub sent-then : {T : Type 0} (a b : List ℕ) (old mid new : Option (List ℕ)) (before after later : ℕ) (end : Result T ReplayFault)
    → AnswerEnds {T = Unit {0}} a old mid before after (Ok tt) → AnswerEnds b mid new after later end → AnswerEnds (a ++ b) old new before later end
sent-then a b old mid new before after later (Ok end) (sent, counted) (more, count) = (Appends-trans old mid new a b sent more, omega arith)
sent-then a b old mid new before after later (Err WriteFailed) (sent, counted) ((part, rest, split, more), failed, count) =
    ((a ++ part, rest, ap (λ l. a ++ l) split ∙ sym (append_assoc a part rest), Appends-trans old mid new a part sent more), has_failed-since before after later counted failed count, omega arith)
sent-then a b old mid new before after later (Err ReadFailed) first never = absurd never
sent-then a b old mid new before after later (Err TooManyTurns) first never = absurd never
sent-then a b old mid new before after later (Err ReplyTooLong) first never = absurd never
sent-then a b old mid new before after later (Err (BadScript line)) first never = absurd never
sent-then a b old mid new before after later (Err NoMemory) first never = absurd never

-- sending the first part failed
pub sent-stopped : (T : Type 0) (a b : List ℕ) (old new : Option (List ℕ)) (before after : ℕ) (fault : ReplayFault)
    → AnswerEnds {T = T} a old new before after (Err fault) → AnswerEnds {T = T} (a ++ b) old new before after (Err fault)
sent-stopped T a b old new before after WriteFailed ((part, rest, split, sent), failed, count) = ((part, rest ++ b, ap (λ l. l ++ b) split ∙ append_assoc part rest b, sent), failed, count)
sent-stopped T a b old new before after ReadFailed never = absurd never
sent-stopped T a b old new before after TooManyTurns never = absurd never
sent-stopped T a b old new before after ReplyTooLong never = absurd never
sent-stopped T a b old new before after (BadScript line) never = absurd never
sent-stopped T a b old new before after NoMemory never = absurd never

-- a count of failures never decreases
pub counts-grow : {T E : Type 0} (before after : ℕ) (end : Result T E) → CountsErrors before after end → before ≤ after
counts-grow before after (Ok value) same = omega arith
counts-grow before after (Err error) (inl (room, one)) = omega arith
counts-grow before after (Err error) (inr (full, same)) = omega arith

part-kept : (old mid new : Option (List ℕ)) (bytes : List ℕ) → Keeps mid new → AppendsPart old mid bytes → AppendsPart old new bytes
part-kept old mid new bytes kept (part, rest, split, sent) = (part, rest, split, Appends-kept old mid new part sent kept)

has_failed-later : (before after later : ℕ) → HasFailed before after → after ≤ later → HasFailed before later
has_failed-later before after later (inl e) more = inl (omega arith)
has_failed-later before after later (inr e) more = inr e

some-kept : (A : Type 0) (old mid new : Option (List ℕ)) (output : List ℕ) → Keeps mid new → (A × AppendsPart old mid output) ⊎ Keeps old mid → (A × AppendsPart old new output) ⊎ Keeps old new
some-kept A old mid new output kept (inl (all, part)) = inl (all, part-kept old mid new output kept part)
some-kept A old mid new output kept (inr none) = inr (Keeps-trans old mid new none kept)

ends-kept : {T : Type 0} (bytes : List ℕ) (left : Option (List ℕ)) (missed missing : ℕ) (old mid new : Option (List ℕ)) (before after later : ℕ) (end : Result T ReplayFault)
    → Keeps mid new → after ≤ later → ReplayEnds bytes left missed missing old mid before after end → ReplayEnds bytes left missed missing old new before later end
ends-kept bytes left missed missing old mid new before after later (Ok end) kept more (few, all, (good, sent, counted)) = (few, all, (good, Appends-kept old mid new _ sent kept, omega arith))
ends-kept bytes left missed missing old mid new before after later (Err (BadScript line)) kept more (few, all, (bad, sent)) = (few, all, (bad, Appends-kept old mid new _ sent kept))
ends-kept bytes left missed missing old mid new before after later (Err WriteFailed) kept more (few, all, (part, failed)) =
    (few, all, (part-kept old mid new _ kept part, has_failed-later before after later failed more))
ends-kept bytes left missed missing old mid new before after later (Err NoMemory) kept more (few, some) = (few, some-kept (IsAtEnd left) old mid new (script_output bytes).output kept some)
ends-kept bytes left missed missing old mid new before after later (Err ReplyTooLong) kept more (long, none) = (long, Keeps-trans old mid new none kept)
ends-kept bytes left missed missing old mid new before after later (Err ReadFailed) kept more (few, failed, none) = (few, failed, Keeps-trans old mid new none kept)
ends-kept bytes left missed missing old mid new before after later (Err TooManyTurns) kept more (few, failed, spent, none) = (few, failed, spent, Keeps-trans old mid new none kept)

-- the contents of the writer stay, and its count of failures never decreases
pub replays-kept : {T : Type 0} (had left : Option (List ℕ)) (missed missing : ℕ) (old mid new : Option (List ℕ)) (before after later : ℕ) (end : Result T ReplayFault)
    → Keeps mid new → after ≤ later → ((bytes : List ℕ) × Consumes had left bytes × ReplayEnds bytes left missed missing old mid before after end)
    → (bytes : List ℕ) × Consumes had left bytes × ReplayEnds bytes left missed missing old new before later end
replays-kept had left missed missing old mid new before after later end kept more (bytes, read, ends) =
    (bytes, read, ends-kept bytes left missed missing old mid new before after later end kept more ends)
