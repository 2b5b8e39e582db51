-- How a server and a check end.
use Rattle.std.proofs.Common.{◌≡◌, ℕ, ◌++◌, List, Option, Result, Ok, Err, subst}
use Rattle.std.specs.Prelude.{OnOk, codes}
use Rattle.std.specs.Io.KnownBytes.{Appends, Keeps}
use Rattle.std.proofs.KnownBytes.{Appends-trans, Appends-kept}
use Rattle.gopher_item.specs.Place.{HomeData}
use Rattle.gopher_scope.specs.declared.settings.Settings.{Settings}
use Rattle.gopher_text.specs.Watched.{WatchedData, HasSent}
use Rattle.gopher_catalogue.specs.declared.frontier.sizes.Status.{Status}
use Rattle.gopher_catalogue.specs.declared.event.EventData.{EventData}
use Rattle.gopher_crew.specs.Kept.{IsStatusAfter}
use Rattle.gopher_script.specs.Answer.{status_line}
use Rattle.gopher_hole.specs.Ending.{AreSettings, FoundSound, HasServed, listening_line, opening_record}

-- bytes were sent, and then the writer was flushed
pub sends_kept : (old mid new : Option (List ℕ)) (bytes : List ℕ) → Appends old mid bytes → Keeps mid new → Appends old new bytes
sends_kept old mid new bytes sent kept = Appends-kept old mid new bytes sent kept

-- a server wrote its two lines, unless the last one failed
pub serves : {D T E : Type 0} (contents : D → Option (List ℕ)) (end : Result T E) (home : HomeData) (desk : List EventData) (settings : Settings) (status : Status) (old mid new : WatchedData D)
    → home ≡ settings.home → desk ≡ opening_record settings → AreSettings settings → IsStatusAfter desk status → HasSent contents old mid (listening_line home)
    → OnOk end (HasSent contents mid new (status_line status)) → OnOk end (HasServed contents old new)
unfolding HasServed
serves contents (Ok value) home desk settings status old mid new same begun read after listens ends =
    let held : WatchedData _ → Option (List ℕ) = λ writer. contents writer.device in
    let listened : HasSent contents old mid (listening_line settings.home) = subst (λ place. HasSent contents old mid (listening_line place)) same listens in
    let opened : IsStatusAfter (opening_record settings) status = subst (λ record_. IsStatusAfter record_ status) begun after in
    (settings, read, status, opened, Appends-trans (held old) (held mid) (held new) _ _ listened ends)
serves contents (Err why) home desk settings status old mid new same begun read after listens ends = tt

-- the report on a sound site was written in two parts, unless the last one failed
pub finds_sound : {D T E : Type 0} (contents : D → Option (List ℕ)) (end : Result T E) (old mid new : WatchedData D) (words : List ℕ)
    → HasSent contents old mid words → OnOk end (HasSent contents mid new (codes "sound\n")) → OnOk end (FoundSound contents old new)
unfolding FoundSound
finds_sound contents (Ok value) old mid new words first last =
    let held : WatchedData _ → Option (List ℕ) = λ writer. contents writer.device in
    (words, Appends-trans (held old) (held mid) (held new) _ _ first last)
finds_sound contents (Err why) old mid new words first last = tt
