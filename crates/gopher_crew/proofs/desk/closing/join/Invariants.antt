use Rattle.std.proofs.Common.{◌≡◌, ◌+◌, ℕ, List, vec_len, vec_capacity}
use Rattle.gopher_catalogue.specs.declared.event.EventData.{EventData}
use Rattle.gopher_crew.specs.Share.{HasSeen}
use Rattle.gopher_crew.specs.Desk.{events_of, parts_of, HasAllSeen}
use Rattle.gopher_crew.proofs.desk.closing.join.Given as goal

abbrev pub invariant-loop-share : goal.invariant-loop-share
invariant-loop-share g l = record {
  total : l.book.total ≡ l.fn.book.total;
  events : l.all.events + events_of l.shares.items ≡ l.fn.all.events + events_of l.fn.shares.items;
  parts : l.all.parts + parts_of l.shares.items ≡ l.fn.all.parts + parts_of l.fn.shares.items;
  seen : (record_ : List EventData) (makers : List ℕ) → HasSeen record_ makers l.all → HasAllSeen record_ makers l.shares.items
      → HasSeen record_ makers l.fn.all × HasAllSeen record_ makers l.fn.shares.items;
  whole : l.all.parts ≡ g.C.Ledger.parts → l.all.events ≡ l.book.total;
  room : vec_capacity l.shares ≡ vec_capacity l.fn.shares;
}

abbrev pub decreases-loop-share : goal.decreases-loop-share
decreases-loop-share g l = vec_len l.shares
