-- Fetches that failed.
use Rattle.std.proofs.Common.{◌≡◌, ℕ, ◌≤◌, List, Option, sym, subst, inr}
use Rattle.std.specs.Io.KnownBytes.{Appends, Consumes}
use Rattle.gopher_text.specs.Reply.{RefusesReply}
use Rattle.gopher_text.specs.Watched.{WatchedData}
use Rattle.gopher_text.specs.declared.fault.ReplyFault.{ReplyFault}
use Rattle.gopher_text.specs.declared.fault.ReplyFault.TheVariants as reply_fault
use Rattle.gopher_catalogue.specs.declared.event.Why.{Why}
use Rattle.gopher_hole.specs.Fetch.{FailsToFetch, SendsThenReads, why_of}

-- the request was sent, and the reply wasn't read to its end
pub fetch_unread : {S : Type 0} (contents remaining : S → Option (List ℕ)) (limit : ℕ) (request : List ℕ) (old middle new : WatchedData S) (fault : ReplyFault) (why : Why)
    → why ≡ why_of fault → Appends (contents old.device) (contents middle.device) request → old.failures ≤ middle.failures
    → ((bytes : List ℕ) × Consumes (remaining middle.device) (remaining new.device) bytes × RefusesReply limit middle.failures new.failures bytes fault)
    → FailsToFetch contents remaining limit request old new why
fetch_unread contents remaining limit request old middle new fault why is sent counted (bytes, read, refused) =
    subst (FailsToFetch contents remaining limit request old new) (sym is) (by fault refused)
  where
    talked : SendsThenReads contents remaining request old middle new bytes
    talked = record { sent = sent; read = read; counted = counted }

    by : (f : ReplyFault) → RefusesReply limit middle.failures new.failures bytes f → FailsToFetch contents remaining limit request old new (why_of f)
    by reply_fault.ReadFailed why = record { middle = middle; bytes = bytes; talked = talked; reason = (why.0, why.1) }
    by reply_fault.TooManyTurns why = record { middle = middle; bytes = bytes; talked = talked; reason = (why.0, why.1) }
    by reply_fault.ReplyTooLong why = record { middle = middle; bytes = bytes; talked = talked; reason = why }
    by reply_fault.NoMemory why = inr (record { middle = middle; bytes = bytes; talked = talked; reason = why })
