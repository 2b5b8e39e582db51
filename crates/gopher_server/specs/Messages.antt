-- The messages that wait for the error stream.
use Rattle.std.specs.Prelude.{◌≡◌, ℕ, List, [], ◌∷◌, ◌+◌, ◌++◌, ◌⊎◌, length, nat_lt, string_bytes, string_capacity, string_len}
use Rattle.std.specs.Bool.{MatchBool}
use Rattle.gopher_text.specs.Watched.{CountsFailure}
use Rattle.gopher_server.specs.declared.messages.pending.PendingMessages.{PendingMessages}

-- a message was counted, and the lines stayed
abbrev pub CountsMessage : PendingMessages → PendingMessages → Type 0
CountsMessage before after = (after.text ≡ before.text) × CountsFailure before.dropped after.dropped

-- a line was appended whole
abbrev pub AppendsLine : List ℕ → PendingMessages → PendingMessages → Type 0
AppendsLine line before after =
    (string_bytes after.text ≡ string_bytes before.text ++ line)
    × (after.dropped ≡ before.dropped)

-- a line was appended whole if the room for messages has room for it, and counted otherwise
abbrev pub AppendsOrCounts : List ℕ → PendingMessages → PendingMessages → Type 0
AppendsOrCounts line before after =
    MatchBool (nat_lt (string_capacity before.text) (string_len before.text + length line))
    (CountsMessage before after)
    (AppendsLine line before after)

-- a message was added as a line with its LF, or counted
abbrev pub AddsMessage : PendingMessages → PendingMessages → Type 0
AddsMessage before after =
    ((message : _) × AppendsOrCounts (message ++ 10 ∷ []) before after) ⊎ CountsMessage before after
