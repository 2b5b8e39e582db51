-- Publications after updates that wait.
use Rattle.std.proofs.Common.{◌≡◌, ◌≢◌, ◌⊎◌, ℕ, Bool, true, false, IsTrue, List, refl, inl, inr, sym, subst, ◌∙◌}
use mathlib.Core.List.{IsPrefix}
use Rattle.logbook.specs.Pages.{Book}
use Rattle.gopher_crew.specs.declared.publication.update.Update.{Update}
use Rattle.gopher_text.specs.Watched.{CountsFailure}
use Rattle.gopher_crew.specs.Publication.{PublicationData, CountsPublication}
use Rattle.gopher_crew.specs.Version.{VersionData, FollowsVersion, CatchesUp, Follows, last_of}
use Rattle.gopher_crew.proofs.Prefixes.{prefix_trans}

-- what is published only grows
pub grows_on : (history : Book) (done : Bool) (shown shown1 shown' version : VersionData) (updates updates1 updates' : List Update)
    → FollowsVersion history shown (last_of shown updates) → IsPrefix (last_of shown updates).prefix.events version.prefix.events
    → CatchesUp true shown updates shown1 updates1 → Follows done version shown1 shown' updates' → IsPrefix shown.prefix.events shown'.prefix.events
grows_on history true shown shown1 shown' version updates updates1 updates' on begins up after =
    subst (λ v. IsPrefix shown.prefix.events v.prefix.events) (sym after.0)
    (prefix_trans shown.prefix.events (last_of shown updates).prefix.events version.prefix.events on.1 begins)
grows_on history false shown shown1 shown' version updates updates1 updates' on begins up after =
    subst (λ v. IsPrefix shown.prefix.events v.prefix.events) (sym (after.0 ∙ up.0)) on.1

-- if the record isn't published after a publication, one more failed
pub no_note_counts : (done : Bool) (old new : PublicationData) → (IsTrue done → new.published ≡ old.events) → new.events ≡ old.events → new.published ≢ new.events
    → CountsPublication done old.failed new.failed → CountsFailure old.failed new.failed
no_note_counts true old new published same not counts = absurd (not (published refl ∙ sym same))
no_note_counts false old new published same not counts = counts

-- at most one more publication failed after one
pub note_counts : (done : Bool) (before after : ℕ) → CountsPublication done before after → (after ≡ before) ⊎ CountsFailure before after
note_counts true before after counts = inl counts
note_counts false before after counts = inr counts
