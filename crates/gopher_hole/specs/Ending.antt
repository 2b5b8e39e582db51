-- How a server ends, by the ends of its threads and of its crawl, and what it and a check have
-- written then.
use Rattle.std.specs.Prelude.{◌≡◌, ℕ, Bool, true, false, List, [], ◌∷◌, ◌++◌, length, vec_len, codes, Option, None, Some, Result, is_ok, if◌then◌else◌}
use Rattle.std.specs.Fmt.{decimal}
use Rattle.std.specs.Global.{Vec}
use Rattle.std.specs.PromisedHandle.{KeepsEach}
use Rattle.std.specs.declared.thread.Promise as Promise
use Rattle.gopher_item.specs.Place.{HomeData}
use Rattle.gopher_text.specs.Watched.{WatchedData, HasSent}
use Rattle.gopher_scope.specs.Settings.{AreSettingsOf}
use Rattle.gopher_scope.specs.declared.settings.Settings.{Settings}
use Rattle.gopher_catalogue.specs.declared.frontier.sizes.Status.{Status}
use Rattle.gopher_catalogue.specs.Step.{opened_record}
use Rattle.gopher_catalogue.specs.declared.event.EventData.{EventData}
use Rattle.gopher_crew.specs.Kept.{IsStatusAfter}
use Rattle.gopher_script.specs.Answer.{status_line}
use Rattle.gopher_server.specs.declared.server.ThreadEnd.{ThreadEnd}
use Rattle.gopher_server.specs.declared.server.ThreadEnd.TheVariants as thread
use Rattle.gopher_hole.specs.declared.starting.Started.{Started}
use Rattle.gopher_hole.specs.declared.starting.ThreadsEnd.{ThreadsEnd}
use Rattle.gopher_hole.specs.declared.fault.ProgramFault.{ProgramFault}
use Rattle.gopher_hole.specs.declared.fault.ProgramFault.TheVariants.{ListenFailed, NoThread, NoMemory}

-- the end of several threads, and of one more
abbrev pub after_thread : ThreadsEnd → ThreadEnd → ThreadsEnd
after_thread end thread.Served = end
after_thread end thread.Failed = record { failed = true; is_short = end.is_short }
after_thread end thread.LacksMemory = record { failed = end.failed; is_short = true }

-- the end of several threads, and of these, in order
unfoldable pub after_threads : ThreadsEnd → List ThreadEnd → ThreadsEnd
after_threads end [] = end
after_threads end (thread ∷ threads) = after_threads (after_thread end thread) threads

-- there is a thread for each pass, unless one couldn't be started
abbrev pub StartsAll : {P T : Type 0} → Vec T → Started P → Type 0
StartsAll passes started = started.is_short ≡ false → vec_len started.threads ≡ vec_len passes

-- server threads came to this end: the end of each of them counts, and so does one that couldn't be
-- started
abbrev pub EndAs : {P : Type 0} → Promise.Ghosts P ThreadEnd → Started P → ThreadsEnd → Type 0
EndAs promise started end =
    (ends : List ThreadEnd)
    × (length ends ≡ vec_len started.threads)
    × KeepsEach promise (vec_len started.threads) started.threads.items ends
    × (end ≡ after_threads (record { failed = false; is_short = started.is_short }) ends)

-- the fault of a server whose threads and crawl have ended: 81 if a thread failed, otherwise 82 if
-- one is missing, otherwise 90 if the crawl was refused
abbrev pub fault_at_end : ThreadsEnd → Bool → Option ProgramFault
fault_at_end end was_crawled =
    if end.failed then Some ListenFailed
    else (if end.is_short then Some NoThread
    else (if was_crawled then None else Some NoMemory))

-- a server has this fault, or none, after its threads and its crawl have ended
abbrev pub ServerEnds : {P T E : Type 0} → Promise.Ghosts P ThreadEnd → Started P → Result T E
    → Option ProgramFault → Type 0
ServerEnds promise started crawled fault =
    (end : ThreadsEnd) × EndAs promise started end × (fault_at_end end (is_ok crawled) ≡ fault)

-- these are the settings in some text
abbrev pub AreSettings : Settings → Type 0
AreSettings settings = (text : List ℕ) × AreSettingsOf text settings

-- the record with which the crawl of a server begins
abbrev pub opening_record : Settings → List EventData
opening_record settings =
    opened_record settings.scope settings.seeds.items settings.places settings.tries

-- the line that says where a server listens
abbrev pub listening_line : HomeData → List ℕ
listening_line home =
    codes "listening " ++ home.host ++ codes " " ++ decimal home.port ++ codes "\n"

-- a server that ended without a fault wrote where it listened, the home of the settings that it
-- read, and then the sizes of a legal record that begins with the opening of those settings
unfoldable pub HasServed : {D : Type 0} → (D → Option (List ℕ)) → WatchedData D → WatchedData D
    → Type 0
HasServed contents old new =
    (settings : Settings) × AreSettings settings
    × (status : Status) × IsStatusAfter (opening_record settings) status
    × HasSent contents old new (listening_line settings.home ++ status_line status)

-- a report was written that ends with the line `sound`
unfoldable pub FoundSound : {D : Type 0} → (D → Option (List ℕ)) → WatchedData D → WatchedData D
    → Type 0
FoundSound contents old new =
    (report : List ℕ) × HasSent contents old new (report ++ codes "sound\n")
