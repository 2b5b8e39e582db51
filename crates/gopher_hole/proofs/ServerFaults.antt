-- Which fault a server has.
use Rattle.std.proofs.Common.{◌≡◌, ℕ, Bool, true, false, List, Option, None, Some, Result, Ok, Err, IfErr, if◌then◌else◌, inl, inr, subst}
use Rattle.gopher_catalogue.specs.Fault.{HasOpenFault}
use Rattle.gopher_catalogue.specs.declared.fault.OpenFault.{OpenFault}
use Rattle.gopher_catalogue.specs.declared.fault.OpenRefused.{OpenRefused}
use Rattle.gopher_crew.specs.Desk.{IsDeskFault}
use Rattle.gopher_scope.specs.declared.settings.Settings.{Settings}
use Rattle.gopher_scope.specs.declared.fault.SiteFault.{SiteFault}
use Rattle.gopher_hole.specs.Ending.{AreSettings, fault_at_end}
use Rattle.gopher_hole.specs.ServerFault.{IsAliasesFault, IsCatalogueFault, IsFaultIn, IsFaultOfDesk, IsFolderFault, IsOpenFault, IsOpeningFault, IsServerFault, IsServingFault, IsSettingsFault, IsTextFault, crawl_fault}
use Rattle.gopher_hole.specs.declared.fault.ProgramFault.{ProgramFault}
use Rattle.gopher_hole.specs.declared.fault.ProgramFault.TheVariants as fault
use Rattle.gopher_hole.specs.declared.starting.ThreadsEnd.{ThreadsEnd}

-- the fault of a catalogue that was refused
pub open_fault_is : (due : Option OpenFault) (refused : OpenRefused) → HasOpenFault due refused → IsOpenFault due refused.fault
open_fault_is None refused is = is
open_fault_is (Some why) refused is = is

pub text_is_settings : (why : SiteFault) → IsTextFault why → IsSettingsFault why
text_is_settings why is = inl is

pub in_is_settings : (text : List ℕ) (why : SiteFault) → IsFaultIn text why → IsSettingsFault why
in_is_settings text why is = inr (text, is)

pub folder_is_opening : (settings : Settings) (why : ProgramFault) → IsFolderFault why → IsOpeningFault settings why
folder_is_opening settings (fault.Site why) is = is
folder_is_opening settings fault.NoMemory is = tt
folder_is_opening settings (fault.Replay why) is = absurd is
folder_is_opening settings fault.WriteFailed is = absurd is
folder_is_opening settings (fault.Aliases why) is = absurd is
folder_is_opening settings fault.AliasesUnreadable is = absurd is
folder_is_opening settings (fault.Open why) is = absurd is
folder_is_opening settings (fault.Desk why) is = absurd is
folder_is_opening settings fault.StrangeShare is = absurd is
folder_is_opening settings fault.ListenFailed is = absurd is
folder_is_opening settings fault.NoThread is = absurd is
folder_is_opening settings fault.Warned is = absurd is

pub catalogue_is_opening : (settings : Settings) (why : ProgramFault) → IsCatalogueFault (crawl_fault settings) why → IsOpeningFault settings why
catalogue_is_opening settings (fault.Open why) is = is
catalogue_is_opening settings (fault.Site why) is = absurd is
catalogue_is_opening settings fault.NoMemory is = absurd is
catalogue_is_opening settings (fault.Replay why) is = absurd is
catalogue_is_opening settings fault.WriteFailed is = absurd is
catalogue_is_opening settings (fault.Aliases why) is = absurd is
catalogue_is_opening settings fault.AliasesUnreadable is = absurd is
catalogue_is_opening settings (fault.Desk why) is = absurd is
catalogue_is_opening settings fault.StrangeShare is = absurd is
catalogue_is_opening settings fault.ListenFailed is = absurd is
catalogue_is_opening settings fault.NoThread is = absurd is
catalogue_is_opening settings fault.Warned is = absurd is

pub desk_is_opening : (settings : Settings) (why : ProgramFault) → crawl_fault settings ≡ None → IsFaultOfDesk settings.threads settings.workers why → IsOpeningFault settings why
desk_is_opening settings (fault.Desk why) none is = (none, is)
desk_is_opening settings (fault.Site why) none is = absurd is
desk_is_opening settings fault.NoMemory none is = absurd is
desk_is_opening settings (fault.Replay why) none is = absurd is
desk_is_opening settings fault.WriteFailed none is = absurd is
desk_is_opening settings (fault.Aliases why) none is = absurd is
desk_is_opening settings fault.AliasesUnreadable none is = absurd is
desk_is_opening settings (fault.Open why) none is = absurd is
desk_is_opening settings fault.StrangeShare none is = absurd is
desk_is_opening settings fault.ListenFailed none is = absurd is
desk_is_opening settings fault.NoThread none is = absurd is
desk_is_opening settings fault.Warned none is = absurd is

pub settings_is_server : (why : SiteFault) → IsSettingsFault why → IsServerFault (fault.Site why)
settings_is_server why is = inl is

pub aliases_is_server : (why : ProgramFault) → IsAliasesFault why → IsServerFault why
aliases_is_server (fault.Aliases why) is = is
aliases_is_server fault.AliasesUnreadable is = tt
aliases_is_server fault.NoMemory is = tt
aliases_is_server (fault.Replay why) is = absurd is
aliases_is_server fault.WriteFailed is = absurd is
aliases_is_server (fault.Site why) is = absurd is
aliases_is_server (fault.Open why) is = absurd is
aliases_is_server (fault.Desk why) is = absurd is
aliases_is_server fault.StrangeShare is = absurd is
aliases_is_server fault.ListenFailed is = absurd is
aliases_is_server fault.NoThread is = absurd is
aliases_is_server fault.Warned is = absurd is

pub opening_is_server : (settings : Settings) (why : ProgramFault) → AreSettings settings → IsOpeningFault settings why → IsServerFault why
opening_is_server settings (fault.Site why) read is = inr is
opening_is_server settings (fault.Open why) read is = (settings, read, is)
opening_is_server settings (fault.Desk why) read is = (settings, read, is)
opening_is_server settings fault.NoMemory read is = tt
opening_is_server settings (fault.Replay why) read is = absurd is
opening_is_server settings fault.WriteFailed read is = absurd is
opening_is_server settings (fault.Aliases why) read is = absurd is
opening_is_server settings fault.AliasesUnreadable read is = absurd is
opening_is_server settings fault.StrangeShare read is = absurd is
opening_is_server settings fault.ListenFailed read is = absurd is
opening_is_server settings fault.NoThread read is = absurd is
opening_is_server settings fault.Warned read is = absurd is

pub serving_is_server : (why : ProgramFault) → IsServingFault why → IsServerFault why
serving_is_server fault.WriteFailed is = tt
serving_is_server fault.ListenFailed is = tt
serving_is_server fault.NoThread is = tt
serving_is_server fault.NoMemory is = tt
serving_is_server (fault.Replay why) is = absurd is
serving_is_server (fault.Site why) is = absurd is
serving_is_server (fault.Aliases why) is = absurd is
serving_is_server fault.AliasesUnreadable is = absurd is
serving_is_server (fault.Open why) is = absurd is
serving_is_server (fault.Desk why) is = absurd is
serving_is_server fault.StrangeShare is = absurd is
serving_is_server fault.Warned is = absurd is

pub serving_ends_server : {T : Type 0} (result : Result T ProgramFault) → IfErr result IsServingFault → IfErr result IsServerFault
serving_ends_server (Ok end) is = tt
serving_ends_server (Err why) is = serving_is_server why is

-- the fault of a server whose threads and crawl have ended
pub end_is_serving : (end : ThreadsEnd) (crawled : Bool) (why : ProgramFault) → fault_at_end end crawled ≡ Some why → IsServingFault why
end_is_serving end crawled why is = of_flags end.failed end.is_short crawled is
  where
    some_is : (due : ProgramFault) → IsServingFault due → Some due ≡ Some why → IsServingFault why
    some_is due serving same = let e : due ≡ why = cc in subst IsServingFault e serving

    of_flags : (failed short was : Bool)
        → (if failed then Some fault.ListenFailed else (if short then Some fault.NoThread else (if was then None else Some fault.NoMemory))) ≡ Some why → IsServingFault why
    of_flags true short was same = some_is fault.ListenFailed tt same
    of_flags false true was same = some_is fault.NoThread tt same
    of_flags false false true same = absurd cc
    of_flags false false false same = some_is fault.NoMemory tt same
