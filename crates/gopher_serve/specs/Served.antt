-- What a client has received, after any number of calls with its conversation.
use Rattle.std.specs.Prelude.{◌≡◌, ℕ, Bool, ◌⊎◌, List, [], take, Option}
use Rattle.std.specs.Io.KnownBytes.{Consumes}
use Rattle.gopher_item.specs.Leads.{Leads}
use Rattle.gopher_text.specs.Watched.{WatchedData, HasSent}
use Rattle.gopher_serve.specs.Advance.{AsksOnce, GivesOn, HearsOn, HearsOnce, IsGiven, SaysOn, SaysOnce, Upholds}
use Rattle.gopher_serve.specs.Talk.{Talk, Asks, Gathers, talk_of}
use Rattle.gopher_serve.specs.declared.advancing.Progress.{Progress}

-- a conversation with its answers and its streams
pub record SessionData (A R W : Type 0) : Type 0 where
  pub talk : Talk
  pub answers : A
  pub reader : WatchedData R
  pub writer : WatchedData W

module _ {A R W : Type 0} (gives : A → A → List ℕ → List ℕ → Type 0) (leads_to : A → A → Type 0)
    (remaining : R → Option (List ℕ)) (contents : W → Option (List ℕ)) where
  -- the contract of `advance`
  pub record Advances (old new : SessionData A R W) : Type 0 where
    pub progress : Progress
    pub hears : HearsOnce remaining old.talk new.talk old.reader new.reader progress
    pub asks : AsksOnce gives old.talk new.talk old.answers new.answers progress
    pub says : SaysOnce contents old.talk new.talk old.writer new.writer progress
    pub leads : Leads leads_to old.answers new.answers

  -- the contract of `converse`
  pub record Converses (old new : SessionData A R W) : Type 0 where
    pub hears : HearsOn remaining old.talk new.talk old.reader new.reader
    pub answers : GivesOn gives leads_to old.talk new.talk old.answers new.answers
    pub says : SaysOn contents old.talk new.talk old.writer new.writer
    pub leads : Leads leads_to old.answers new.answers

  -- the contract of `put_back`
  pub record PutsBack (old new : SessionData A R W) : Type 0 where
    pub talk : Upholds old.talk new.talk
    pub answers : new.answers ≡ old.answers
    pub reader : new.reader ≡ old.reader
    pub writer : new.writer ≡ old.writer

  -- one call
  abbrev pub Calls : SessionData A R W → SessionData A R W → Type 0
  Calls old new = Advances old new ⊎ (Converses old new ⊎ PutsBack old new)

  -- of the bytes that the reader had, these were read, and their first line is this one
  pub record HasAsked (old new : SessionData A R W) (line : List ℕ) : Type 0 where
    pub taken : List ℕ
    pub ended : Bool
    pub consumed : Consumes (remaining old.reader.device) (remaining new.reader.device) taken
    pub asked : talk_of ended taken ≡ Asks line

  -- a prefix of a reply that the answers gave, meanwhile, to the first line of the bytes that were
  -- read
  pub record ReceivesPrefix (old new : SessionData A R W) (bytes : List ℕ) : Type 0 where
    pub line : List ℕ
    pub reply : List ℕ
    pub sent : ℕ
    pub prefix : bytes ≡ take sent reply
    pub asked : HasAsked old new line
    pub given : IsGiven gives leads_to old.answers new.answers line reply

  -- nothing was written, or such a prefix
  abbrev pub IsServed : SessionData A R W → SessionData A R W → Type 0
  IsServed old new =
      (bytes : List ℕ) × HasSent contents old.writer new.writer bytes
      × ((bytes ≡ []) ⊎ ReceivesPrefix old new bytes)

  -- whatever calls a new conversation went through, its client is served so
  abbrev pub ClientsReceivePrefixes : Type 0
  ClientsReceivePrefixes =
      (old new : SessionData A R W) → old.talk ≡ Gathers [] → Leads Calls old new → IsServed old new
