-- The bytes that a fetch sent and read, by how it ended.
use Rattle.std.specs.Prelude.{◌≡◌, ℕ, ◌+◌, ◌<◌, ◌≤◌, ◌⊎◌, List, [], ◌∷◌, ◌++◌, length, take, Option, Result, Ok, Err}
use Rattle.std.specs.Global.{Vec}
use Rattle.std.specs.Io.KnownBytes.{Appends, Consumes, IsAtEnd}
use Rattle.gopher_item.specs.Place.{PlaceData}
use Rattle.gopher_text.specs.Watched.{WatchedData, HasFailed}
use Rattle.gopher_text.specs.declared.fault.ReplyFault.{ReplyFault}
use Rattle.gopher_text.specs.declared.fault.ReplyFault.TheVariants as reply_fault
use Rattle.gopher_catalogue.specs.declared.event.Why.{Why}
use Rattle.gopher_catalogue.specs.declared.event.Why.TheVariants.{Connect, Read, Write, TooLong, NoMemory}

-- the request for a place: its selector and CR LF (RFC 1436, section 2)
abbrev pub request_bytes : PlaceData → List ℕ
request_bytes place = place.selector ++ 13 ∷ 10 ∷ []

abbrev pub why_of : ReplyFault → Why
why_of reply_fault.ReadFailed = Read
why_of reply_fault.TooManyTurns = Read
why_of reply_fault.ReplyTooLong = TooLong
why_of reply_fault.NoMemory = NoMemory

-- a prefix of the request was sent, and then a write failed
pub record SendsPart {S : Type 0} (contents : S → Option (List ℕ)) (request : List ℕ)
    (old new : WatchedData S) : Type 0 where
  pub count : ℕ
  pub part : count < length request
  pub sent : Appends (contents old.device) (contents new.device) (take count request)
  pub failed : HasFailed old.failures new.failures

module _ {S : Type 0} (contents remaining : S → Option (List ℕ)) where
  -- the whole request was sent, and then these bytes were read; the bytes that a stream returns may
  -- depend on those sent to it, so the reading begins with the stream after the sending
  pub record SendsThenReads (request : List ℕ) (old middle new : WatchedData S)
      (bytes : List ℕ) : Type 0 where
    pub sent : Appends (contents old.device) (contents middle.device) request
    pub read : Consumes (remaining middle.device) (remaining new.device) bytes
    pub counted : old.failures ≤ middle.failures

  -- the bytes are all that the stream returned after the request
  pub record FetchesAll (limit : ℕ) (request : List ℕ) (old new : WatchedData S)
      (bytes : List ℕ) : Type 0 where
    pub middle : WatchedData S
    pub talked : SendsThenReads request old middle new bytes
    pub whole : IsAtEnd (remaining new.device)
    pub few : length bytes ≤ limit

  -- the request was sent, these bytes of the reply were read, and then reading failed as `P` says
  pub record GivesUp (request : List ℕ) (old new : WatchedData S)
      (P : WatchedData S → List ℕ → Type 0) : Type 0 where
    pub middle : WatchedData S
    pub bytes : List ℕ
    pub talked : SendsThenReads request old middle new bytes
    pub reason : P middle bytes

  -- the reason why there is no reply, and the bytes that were sent and read
  abbrev pub FailsToFetch : ℕ → List ℕ → WatchedData S → WatchedData S → Why → Type 0
  FailsToFetch limit request old new Connect = ⊥
  FailsToFetch limit request old new Write = SendsPart contents request old new
  FailsToFetch limit request old new Read =
      GivesUp request old new (λ middle bytes. (length bytes ≤ limit)
      × HasFailed middle.failures new.failures)
  FailsToFetch limit request old new TooLong =
      GivesUp request old new (λ middle bytes. length bytes ≡ limit + 1)
  FailsToFetch limit request old new NoMemory =
      (new ≡ old) ⊎ GivesUp request old new (λ middle bytes. length bytes ≤ limit)

  -- the fetch of a place, by its result: the stream before and after
  abbrev pub Fetches : ℕ → PlaceData → WatchedData S → WatchedData S → Result (Vec ℕ) Why → Type 0
  Fetches limit place old new (Ok bytes) =
      FetchesAll limit (request_bytes place) old new bytes.items
  Fetches limit place old new (Err why) = FailsToFetch limit (request_bytes place) old new why
