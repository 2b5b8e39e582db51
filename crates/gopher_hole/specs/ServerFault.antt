-- Which fault a server has, at each step from its settings to its end.
use Rattle.std.specs.Prelude.{◌≡◌, ℕ, ◌⊎◌, List, Option, None, Some}
use Rattle.gopher_catalogue.specs.Step.{open_fault as fault_of}
use Rattle.gopher_catalogue.specs.declared.fault.OpenFault.{OpenFault}
use Rattle.gopher_catalogue.specs.declared.fault.OpenFault.TheVariants as open_fault
use Rattle.gopher_crew.specs.Desk.{IsDeskFault}
use Rattle.gopher_scope.specs.Settings.{IsFaultOf}
use Rattle.gopher_scope.specs.declared.settings.Settings.{Settings}
use Rattle.gopher_scope.specs.declared.fault.SettingsFault.TheVariants as settings_fault
use Rattle.gopher_scope.specs.declared.fault.SiteFault.{SiteFault}
use Rattle.gopher_scope.specs.declared.fault.SiteFault.TheVariants as site
use Rattle.gopher_hole.specs.Aliases.{IsAliasFault}
use Rattle.gopher_hole.specs.Ending.{AreSettings}
use Rattle.gopher_hole.specs.declared.fault.ProgramFault.{ProgramFault}
use Rattle.gopher_hole.specs.declared.fault.ProgramFault.TheVariants as fault

-- why the text of a settings file isn't read: the file can't be read, or memory runs out
abbrev pub IsTextFault : SiteFault → Type 0
IsTextFault (site.SettingsUnreadable how) = Unit {0}
IsTextFault (site.Settings settings_fault.NoMemory) = Unit {0}
IsTextFault why = ⊥

-- why the settings of a text aren't read: its first fault, unless memory runs out
abbrev pub IsFaultIn : List ℕ → SiteFault → Type 0
IsFaultIn text (site.Settings why) = IsFaultOf text why
IsFaultIn text why = ⊥

-- why the settings of a file aren't read: the file can't be read, or its text has a fault
abbrev pub IsSettingsFault : SiteFault → Type 0
IsSettingsFault why = IsTextFault why ⊎ ((text : List ℕ) × IsFaultIn text why)

-- why the aliases of a file aren't read: the file can't be read, this is the first bad line of its
-- text, or memory runs out
abbrev pub IsAliasesFault : ProgramFault → Type 0
IsAliasesFault (fault.Aliases why) = (text : List ℕ) × IsAliasFault text why
IsAliasesFault fault.AliasesUnreadable = Unit {0}
IsAliasesFault fault.NoMemory = Unit {0}
IsAliasesFault why = ⊥

-- a fault of a folder
abbrev pub IsTreeFault : SiteFault → Type 0
IsTreeFault (site.Tree why how) = Unit {0}
IsTreeFault why = ⊥

-- why the replies of a folder aren't made: the folder has a fault, or memory runs out
abbrev pub IsFolderFault : ProgramFault → Type 0
IsFolderFault (fault.Site why) = IsTreeFault why
IsFolderFault fault.NoMemory = Unit {0}
IsFolderFault why = ⊥

-- the fault of a call with this fault in its arguments, or, if they have none, without memory
abbrev pub IsOpenFault : Option OpenFault → OpenFault → Type 0
IsOpenFault (Some due) why = why ≡ due
IsOpenFault None why = why ≡ open_fault.NoMemory

-- why a catalogue isn't opened: this fault of its arguments, if they have one
abbrev pub IsCatalogueFault : Option OpenFault → ProgramFault → Type 0
IsCatalogueFault due (fault.Open why) = IsOpenFault due why
IsCatalogueFault due why = ⊥

-- why a desk isn't opened for these numbers of passes and shares
abbrev pub IsFaultOfDesk : ℕ → ℕ → ProgramFault → Type 0
IsFaultOfDesk passes shares (fault.Desk why) = IsDeskFault passes shares why
IsFaultOfDesk passes shares why = ⊥

-- the fault of the settings' crawl, if it has one
abbrev pub crawl_fault : Settings → Option OpenFault
crawl_fault settings =
    fault_of settings.scope settings.seeds.items settings.places settings.tries

-- why a server with these settings isn't opened: a fault of its folder, otherwise that of its
-- crawl, otherwise one of its desk
abbrev pub IsOpeningFault : Settings → ProgramFault → Type 0
IsOpeningFault settings (fault.Site why) = IsTreeFault why
IsOpeningFault settings (fault.Open why) = IsOpenFault (crawl_fault settings) why
IsOpeningFault settings (fault.Desk why) =
    (crawl_fault settings ≡ None) × IsDeskFault settings.threads settings.workers why
IsOpeningFault settings fault.NoMemory = Unit {0}
IsOpeningFault settings why = ⊥

-- why a server that is open fails. Its shares count all events of its crawl, so 62 isn't among them
abbrev pub IsServingFault : ProgramFault → Type 0
IsServingFault fault.WriteFailed = Unit {0}
IsServingFault fault.ListenFailed = Unit {0}
IsServingFault fault.NoThread = Unit {0}
IsServingFault fault.NoMemory = Unit {0}
IsServingFault why = ⊥

-- why a server fails: the first fault of its settings, one of its aliases, one at the opening with
-- the settings of some text, or one while it serves
abbrev pub IsServerFault : ProgramFault → Type 0
IsServerFault (fault.Site why) = IsSettingsFault why ⊎ IsTreeFault why
IsServerFault (fault.Aliases why) = IsAliasesFault (fault.Aliases why)
IsServerFault fault.AliasesUnreadable = Unit {0}
IsServerFault (fault.Open why) =
    (settings : Settings) × AreSettings settings × IsOpeningFault settings (fault.Open why)
IsServerFault (fault.Desk why) =
    (settings : Settings) × AreSettings settings × IsOpeningFault settings (fault.Desk why)
IsServerFault why = IsServingFault why
