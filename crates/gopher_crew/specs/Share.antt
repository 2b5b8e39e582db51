-- What contracts see of a share, and by how much a call lets it rise.
use Rattle.std.specs.Prelude.{ℕ, ◌≡◌, ◌+◌, List, length, slice_get, Option, Some, None, Result, Ok, Err}
use mathlib.Core.List.{IsPrefix}
use Rattle.gopher_catalogue.specs.declared.event.EventData.{EventData}
use Rattle.gopher_text.specs.Watched.{CountsFailure}

-- its number among the shares of its desk, the number of events that a share counts, the number of
-- its parts of the ledger, the longer of the record that the last reply to its holder was on and of
-- what passes told it, the number of the share that made each of its events, and how many replies
-- to its holder had no note, counted up to 2^64 - 1
pub record ShareData : Type 0 where
  pub number : ℕ
  pub events : ℕ
  pub parts : ℕ
  pub seen : List EventData
  pub makers : List ℕ
  pub missed : ℕ

-- a share counts `count` events more, has its number and as many parts, and has seen at least what
-- it had seen, with the makers
pub record Rises (count : ℕ) (old new : ShareData) : Type 0 where
  pub number : new.number ≡ old.number
  pub events : new.events ≡ old.events + count
  pub parts : new.parts ≡ old.parts
  pub seen : IsPrefix old.seen new.seen
  pub makers : IsPrefix old.makers new.makers

-- a share has seen no more than this record and these makers of its events
pub record HasSeen (record_ : List EventData) (makers : List ℕ) (share : ShareData) : Type 0 where
  pub events : IsPrefix share.seen record_
  pub made : IsPrefix share.makers makers

-- a share made the event that follows this record
abbrev pub MadeNext : ShareData → List EventData → Type 0
MadeNext share before = slice_get share.makers (length before) ≡ Some share.number

-- no event has two makers: of shares that saw no more than one record, those that made the event at
-- one place of it have the same number
abbrev pub NoEventHasTwoMakers : Type 0
NoEventHasTwoMakers =
    (record_ : List EventData) (makers : List ℕ) (one other : ShareData)
    (before before' : List EventData)
    → HasSeen record_ makers one → HasSeen record_ makers other
    → MadeNext one before → MadeNext other before' → length before ≡ length before'
    → one.number ≡ other.number

-- a share before and after a call: it rises by what the call returned, and by nothing at an error
abbrev pub RisesBy : {T E : Type 0} → (T → ℕ) → Result T E → ShareData → ShareData → Type 0
RisesBy rise (Ok it) old new = Rises (rise it) old new
RisesBy rise (Err fault) old new = Rises 0 old new

-- the replies without a note, before and after a reply: one more if it has none
abbrev pub CountsNote : Option (List EventData) → ℕ → ℕ → Type 0
CountsNote (Some note) before after = after ≡ before
CountsNote None before after = CountsFailure before after

-- the replies without a note, before and after a call, which fails without a reply
abbrev pub CountsReply : {T E : Type 0} → (T → Option (List EventData)) → Result T E → ℕ → ℕ
    → Type 0
CountsReply note (Ok reply) before after = CountsNote (note reply) before after
CountsReply note (Err fault) before after = after ≡ before
