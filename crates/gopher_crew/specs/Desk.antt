-- Opening and closing a desk.
use Rattle.std.specs.Prelude.{ℕ, zero, suc, ◌≡◌, ◌≢◌, ◌<◌, ◌+◌, ◌-◌, Bool, ◌&&◌, nat_le, MatchBool, List, [], ◌∷◌, ◌++◌, length, replicate}
use Rattle.std.specs.List.{All, sum_by}
use mathlib.Core.List.{IsPrefix}
use Rattle.logbook.specs.Pages.{Book}
use Rattle.gopher_catalogue.specs.declared.event.EventData.{EventData}
use Rattle.gopher_catalogue.specs.Legal.{IsLegal}
use Rattle.gopher_crew.specs.declared.fault.DeskFault.{DeskFault}
use Rattle.gopher_crew.specs.declared.fault.DeskFault.TheVariants.{BadCount}
use Rattle.gopher_crew.specs.Pass.{PassData}
use Rattle.gopher_crew.specs.Share.{HasSeen, ShareData}
use Rattle.gopher_crew.specs.History.{RecordPrefixData}

-- what a desk is opened with: the name of a ledger and the number of its parts, a history, and the
-- events that were entered into it
pub record BlankData : Type 0 where
  pub name : ℕ
  pub parts : ℕ
  pub history : Book
  pub begun : List EventData

abbrev pub blank_data : ℕ → ℕ → RecordPrefixData → BlankData
blank_data name parts prefix =
    record { name = name; parts = parts; history = prefix.history; begun = prefix.events }

-- a blank whose names are those of a crew: of its ledger, with the number of parts, and of its
-- history
abbrev pub IsBlankOf : ℕ → ℕ → Book → BlankData → Type 0
IsBlankOf name parts history blank =
    (blank.name ≡ name) × (blank.parts ≡ parts) × (blank.history ≡ history)

-- whether a desk may have these numbers of passes and shares
abbrev pub are_counts : ℕ → ℕ → Bool
are_counts passes shares =
    (nat_le 1 passes && nat_le passes 16) && (nat_le 1 shares && nat_le shares 16)

-- the faults of `Desk::open`: a bad count if the numbers are bad, and otherwise another fault
abbrev pub IsDeskFault : ℕ → ℕ → DeskFault → Type 0
IsDeskFault passes shares fault =
    MatchBool (are_counts passes shares) (fault ≢ BadCount) (fault ≡ BadCount)

-- a pass that has seen the record, and was told nothing else
abbrev pub has_seen : List EventData → PassData
has_seen record_ = record { seen = record_; told = record_; failed_entries = 0 }

-- `count` passes that have seen the record
abbrev pub AllHaveSeen : List EventData → ℕ → List PassData → Type 0
AllHaveSeen record_ count passes = passes ≡ replicate count (has_seen record_)

-- a share of a desk that opens over a record. It has seen the record, all of which the share 0 made
abbrev pub share_at : List EventData → ℕ → ℕ → ℕ → ShareData
share_at record_ number events parts = record {
  number = number;
  events = events;
  parts = parts;
  seen = record_;
  makers = replicate (length record_) 0;
  missed = 0;
}

-- the shares 1 to `count`, each with one part, which count no events
abbrev pub others_at : List EventData → ℕ → List ShareData
others_at record_ zero = []
others_at record_ (suc count) = others_at record_ count ++ share_at record_ (suc count) 0 1 ∷ []

-- the shares of a desk that opens over a record. The first counts its events so far, the others
-- none
abbrev pub shares_at : List EventData → ℕ → List ShareData
shares_at record_ shares =
    share_at record_ 0 (length record_ - 1) (17 - shares) ∷ others_at record_ (shares - 1)

-- the number of events that these shares count, and the number of their parts
abbrev pub events_of : List ShareData → ℕ
events_of shares = sum_by (λ share. share.events) shares

abbrev pub parts_of : List ShareData → ℕ
parts_of shares = sum_by (λ share. share.parts) shares

-- a blank that an error returns is the one of the call, except that events of the record may have
-- been entered
pub record ComesBack (record_ : List EventData) (old new : BlankData) : Type 0 where
  pub name : new.name ≡ old.name
  pub parts : new.parts ≡ old.parts
  pub history : new.history ≡ old.history
  pub begun : IsPrefix new.begun record_

-- some shares, with all parts of a ledger
pub record HasAll (parts : ℕ) (shares : List ShareData) : Type 0 where
  pub some : 0 < length shares
  pub whole : parts_of shares ≡ parts

-- each of these shares saw no more than this record and these makers
abbrev pub HasAllSeen : List EventData → List ℕ → List ShareData → Type 0
HasAllSeen record_ makers shares = All (HasSeen record_ makers) shares

-- other shares that count the same number of events, have the same number of parts, and saw as much
pub record CountTheSame (old new : List ShareData) : Type 0 where
  pub events : events_of new ≡ events_of old
  pub parts : parts_of new ≡ parts_of old
  pub seen : (record_ : List EventData) (makers : List ℕ) → HasAllSeen record_ makers new
      → HasAllSeen record_ makers old

-- a share after others were merged into it: it counts their events, has their parts, and saw what
-- each of them saw
pub record JoinsAll (share : ShareData) (others : List ShareData) (all : ShareData) : Type 0 where
  pub events : all.events ≡ share.events + events_of others
  pub parts : all.parts ≡ share.parts + parts_of others
  pub seen : (record_ : List EventData) (makers : List ℕ) → HasSeen record_ makers all
      → HasSeen record_ makers share × HasAllSeen record_ makers others

-- The record of a desk that is closed with these shares. It is legal, and begins with the record
-- that the desk was opened with. Each of its events has one maker, and each share saw a prefix of
-- both. The shares count its events after the first
pub record Closes (opened : List EventData) (shares : List ShareData) (record_ : List EventData)
    : Type 0 where
  pub legal : IsLegal record_
  pub goes_on : IsPrefix opened record_
  pub makers : List ℕ
  pub made : length makers ≡ length record_
  pub seen : HasAllSeen record_ makers shares
  pub counted : length record_ ≡ events_of shares + 1
