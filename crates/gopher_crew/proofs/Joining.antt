-- Shares that are merged into one.
use Rattle.std.proofs.Common.{List, ℕ, [], ◌∷◌, ◌++◌, Some, refl}
use Rattle.std.proofs.lemmas.List.Elements.{All-pop, All-push}
use Rattle.gopher_catalogue.specs.declared.event.EventData.{EventData}
use Rattle.gopher_crew.specs.Share.{ShareData, HasSeen, Rises}
use Rattle.gopher_crew.specs.Desk.{HasAllSeen, JoinsAll}
use Rattle.gopher_crew.proofs.Prefixes.{prefix_trans}

-- a share that saw no more than another saw no more than what that one saw no more than
pub seen_less : (record_ : List EventData) (makers : List ℕ) (less more : ShareData) → HasSeen more.seen more.makers less → HasSeen record_ makers more → HasSeen record_ makers less
seen_less record_ makers less more first next = record { events = prefix_trans _ _ _ first.events next.events; made = prefix_trans _ _ _ first.made next.made }

-- what a share saw before it rose
pub rises_sees : (count : ℕ) (old new : ShareData) → Rises count old new → HasSeen new.seen new.makers old
rises_sees count old new rises = record { events = rises.seen; made = rises.makers }

-- of shares that saw no more than a record, the last one saw no more
pub last_has_seen : (record_ : List EventData) (makers : List ℕ) (shares : List ShareData) (share : ShareData) → HasAllSeen record_ makers (shares ++ share ∷ []) → HasSeen record_ makers share
last_has_seen record_ makers shares share seen = (All-pop (HasSeen record_ makers) (shares ++ share ∷ []) shares (Some share) refl seen).1

-- shares that were merged into one saw no more than a record of which that one saw no more
pub joined_have_seen : (record_ : List EventData) (makers : List ℕ) (others : List ShareData) (share all : ShareData) → JoinsAll share others all → HasSeen record_ makers all → HasAllSeen record_ makers (others ++ share ∷ [])
joined_have_seen record_ makers others share all joins begins =
    let both = joins.seen record_ makers begins in All-push (HasSeen record_ makers) others share both.1 both.0
