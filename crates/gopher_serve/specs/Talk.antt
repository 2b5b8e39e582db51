-- A conversation with one client, over all bytes that came in: one line, and its reply (RFC 1436,
-- section 2).
use Rattle.std.specs.Prelude.{◌≡◌, ℕ, suc, ◌+◌, ◌==◌, Bool, false, ◌||◌, ◌⊎◌, List, [], ◌++◌, length, take, drop, nat_le, Option, None, Some, if◌then◌else◌}
use Rattle.std.specs.Io.BufRead.{first_line}
use Rattle.gopher_bytes.specs.declared.line.TheConstants.{MAX_LINE}
use Rattle.gopher_text.specs.Line.{has_feed}
use Rattle.gopher_serve.specs.Answer.{answer_bytes, steps_to_reply}
use Rattle.gopher_serve.specs.declared.answer.Answer.{Answer}
use Rattle.gopher_serve.specs.declared.conversation.Phase.{Phase}
use Rattle.gopher_serve.specs.declared.conversation.Phase.TheVariants as phase

-- the state of a conversation: it has gathered these bytes; it asks for the reply to this line; the
-- line is too long; it is out of memory for the line; or it answers this line with this reply. The
-- reply is there after at most `steps` steps of a search, and its first `sent` bytes were sent
pub data Talk : Type 0 where
  Gathers : (bytes : List ℕ) → Talk
  Asks : (line : List ℕ) → Talk
  IsTooLong : Talk
  LacksMemory : Talk
  Responds : (line reply : List ℕ) (steps sent : ℕ) → Talk

-- whether the first line of the bytes that came in is known: it has its LF, the input has ended, or
-- the line is too long
abbrev pub is_known : Bool → List ℕ → Bool
is_known ended bytes = ended || (has_feed bytes || nat_le (MAX_LINE + 2) (length bytes))

abbrev pub known_line : List ℕ → Talk
known_line line = if nat_le (length line) MAX_LINE then Asks line else IsTooLong

-- the state of a conversation after all bytes that came in; `ended` says whether the input ended
abbrev pub talk_of : Bool → List ℕ → Talk
talk_of ended bytes = if is_known ended bytes then known_line (first_line bytes) else Gathers bytes

-- the state after one more piece
abbrev pub heard : Bool → Talk → List ℕ → Talk
heard ended (Gathers bytes) piece = talk_of ended (bytes ++ piece)
heard ended talk piece = talk

-- the state after one more piece, unless the conversation is out of memory for it
abbrev pub Hears : Talk → List ℕ → Talk → Type 0
Hears old piece new =
    (new ≡ heard false old piece)
    ⊎ (((bytes : List ℕ) × (old ≡ Gathers bytes)) × (new ≡ LacksMemory))

-- the line whose reply is asked for or sent, if there is one
abbrev pub asked_of : Talk → Option (List ℕ)
asked_of (Asks line) = Some line
asked_of (Responds line reply steps sent) = Some line
asked_of talk = None

-- the number of bytes of the reply that were sent
abbrev pub sent_of : Talk → ℕ
sent_of (Responds line reply steps sent) = sent
sent_of talk = 0

-- the rest of the reply, also while a search makes it
abbrev pub unsent_of : Talk → List ℕ
unsent_of (Responds line reply steps sent) = drop sent reply
unsent_of talk = []

-- the bytes of the reply that were sent
abbrev pub spoken_of : Talk → List ℕ
spoken_of (Responds line reply steps sent) = take sent reply
spoken_of talk = []

-- a bound of the steps of the search that are left until the reply is there; 0 once it is there
abbrev pub steps_of : Talk → ℕ
steps_of (Responds line reply steps sent) = steps
steps_of talk = 0

-- the rest of the reply; `None` while a search makes it
abbrev pub sendable_of : Talk → Option (List ℕ)
sendable_of talk = if steps_of talk == 0 then Some (unsent_of talk) else None

-- the state after `count` more bytes of the reply were sent
abbrev pub said : Talk → ℕ → Talk
said (Responds line reply steps sent) count = Responds line reply steps (sent + count)
said talk count = talk

-- the same state, with this bound of the steps that are left
abbrev pub with_steps : Talk → ℕ → Talk
with_steps (Responds line reply steps sent) left = Responds line reply left sent
with_steps talk left = talk

-- only the search for the reply went on: at most its steps changed
abbrev pub OnlySearches : Talk → Talk → Type 0
OnlySearches old new = new ≡ with_steps old (steps_of new)

-- the same state without the search that makes the reply, if nothing of the reply was sent: the
-- line is asked again
abbrev pub put_back : Talk → Talk
put_back (Responds line reply (suc steps) sent) =
    if sent == 0 then Asks line else Responds line reply (suc steps) sent
put_back talk = talk

-- the line is answered with this reply
abbrev pub HoldsReply : Talk → List ℕ → List ℕ → Type 0
HoldsReply (Responds asked given steps sent) line reply = (line ≡ asked) × (reply ≡ given)
HoldsReply talk line reply = ⊥

-- the state of a conversation agrees with all bytes that came in
abbrev pub HasHeard : Bool → List ℕ → Talk → Type 0
HasHeard ended taken LacksMemory = Unit {0}
HasHeard ended taken (Responds line reply steps sent) = talk_of ended taken ≡ Asks line
HasHeard ended taken talk = talk_of ended taken ≡ talk

-- the line is answered
abbrev pub IsAnswering : Talk → Type 0
IsAnswering (Responds line reply steps sent) = Unit {0}
IsAnswering talk = ⊥

-- ---- from the fields that a conversation keeps

abbrev pub talk_in : List ℕ → Phase → ℕ → Talk
talk_in gathered phase.Gathering sent = Gathers gathered
talk_in gathered phase.Asked sent = Asks (first_line gathered)
talk_in gathered phase.TooLong sent = IsTooLong
talk_in gathered phase.LacksMemory sent = LacksMemory
talk_in gathered (phase.Answering answer) sent =
    Responds (first_line gathered) (answer_bytes answer) (steps_to_reply answer) sent

-- the line that is asked, if there is one, gets this answer
abbrev pub IsAnswered : Talk → Talk → Answer → Type 0
IsAnswered old new answer =
    (line : List ℕ) → old ≡ Asks line
    → new ≡ Responds line (answer_bytes answer) (steps_to_reply answer) 0

-- the reply of a conversation, also while its search goes on
abbrev pub reply_in : Phase → List ℕ
reply_in (phase.Answering answer) = answer_bytes answer
reply_in phase = []
