use Rattle.std.proofs.Common.{List, subst}
use mathlib.Core.List.{IsPrefix}
use Rattle.gopher_catalogue.specs.declared.event.EventData.{EventData}
use Rattle.gopher_crew.specs.Share.{HasSeen, ShareData}
use Rattle.gopher_crew.specs.Desk.{HasAllSeen}
use Rattle.gopher_crew.proofs.Joining.{last_has_seen}
use Rattle.gopher_crew.proofs.Prefixes.{prefix_trans}
use Rattle.example_crawl.proofs.search_and_close.Goals as goal

-- the closed catalogue's record begins with what the share saw at last, which begins with what each
-- pass told it: the record of that pass's search
pub returns-clause-first_begins : goal.returns-clause-first_begins
returns-clause-first_begins g c =
    let record_ = c.in-Ok-close.catalogue in
    let closed = c.in-Ok-close.ensures.closed in
    let shown : HasSeen record_ closed.makers c.tell-2.new.share =
    last_has_seen record_ closed.makers c.pop.new.self.items c.tell-2.new.share
    (subst (λ (shares : List ShareData). HasAllSeen record_ closed.makers shares) c.push_reserved.ensures.items closed.seen) in
    subst (λ (told : List EventData). IsPrefix told record_) c.in-Ok.ensures.none_told
    (prefix_trans c.search.new.self.told c.tell.new.share.seen record_ c.tell.ensures.told
    (prefix_trans c.tell.new.share.seen c.tell-2.new.share.seen record_ c.tell-2.ensures.share.seen shown.events))

pub returns-clause-second_begins : goal.returns-clause-second_begins
returns-clause-second_begins g c =
    let record_ = c.in-Ok-close.catalogue in
    let closed = c.in-Ok-close.ensures.closed in
    let shown : HasSeen record_ closed.makers c.tell-2.new.share =
    last_has_seen record_ closed.makers c.pop.new.self.items c.tell-2.new.share
    (subst (λ (shares : List ShareData). HasAllSeen record_ closed.makers shares) c.push_reserved.ensures.items closed.seen) in
    subst (λ (told : List EventData). IsPrefix told record_) c.in-Ok-search.ensures.none_told
    (prefix_trans c.search-2.new.self.told c.tell-2.new.share.seen record_ c.tell-2.ensures.told shown.events)
