-- The numbers of the program's faults, and the line that the program writes for each.
use Rattle.std.specs.Prelude.{ℕ, List, [], ◌∷◌, ◌++◌, codes, ◌+◌, Bool, nat_le}
use Rattle.std.specs.Fmt.{decimal}
use Rattle.gopher_scope.specs.Rows.{key_name}
use Rattle.gopher_scope.specs.Fault.{site_fault_code}
use Rattle.gopher_tree.specs.declared.fault.TreeFault.{TreeFault}
use Rattle.gopher_catalogue.specs.Fault.{open_fault_code}
use Rattle.gopher_crew.specs.Fault.{desk_fault_code}
use Rattle.gopher_script.specs.Fault.{replay_fault_code}
use Rattle.gopher_hole.specs.Aliases.{alias_fault_code}
use Rattle.gopher_hole.specs.declared.fault.ProgramFault.{ProgramFault}
use Rattle.gopher_hole.specs.declared.fault.Detail.{Detail}
use Rattle.gopher_catalogue.specs.declared.event.Why.{Why}
use Rattle.gopher_catalogue.specs.declared.event.Why.TheVariants.{Connect, Read, Write, TooLong, NoMemory}
use Rattle.gopher_scope.specs.declared.fault.SettingsFault.TheVariants as settings_fault
use Rattle.gopher_scope.specs.declared.fault.SiteFault.TheVariants as site
use Rattle.gopher_tree.specs.declared.fault.TreeFault.TheVariants as tree_fault
use Rattle.gopher_catalogue.specs.declared.fault.OpenFault.TheVariants as open_fault
use Rattle.gopher_script.specs.declared.fault.ReplayFault.TheVariants as replay_fault
use Rattle.gopher_hole.specs.declared.aliases.AliasFault.TheVariants as alias_fault
use Rattle.gopher_hole.specs.declared.fault.ProgramFault.TheVariants as fault
use Rattle.gopher_hole.specs.declared.fault.Detail.TheVariants as detail

abbrev pub program_fault_code : ProgramFault → ℕ
program_fault_code (fault.Replay why) = replay_fault_code why
program_fault_code fault.WriteFailed = 13
program_fault_code (fault.Site why) = site_fault_code why
program_fault_code (fault.Aliases why) = alias_fault_code why
program_fault_code fault.AliasesUnreadable = 36
program_fault_code (fault.Open why) = open_fault_code why
program_fault_code (fault.Desk why) = desk_fault_code why
program_fault_code fault.StrangeShare = 62
program_fault_code fault.ListenFailed = 81
program_fault_code fault.NoThread = 82
program_fault_code fault.Warned = 83
program_fault_code fault.NoMemory = 90

abbrev pub tree_details : TreeFault → Detail × Detail
tree_details (tree_fault.BadName file) = (detail.File file, detail.Nothing)
tree_details (tree_fault.Reserved file) = (detail.File file, detail.Nothing)
tree_details (tree_fault.LongSelector file) = (detail.File file, detail.Nothing)
tree_details (tree_fault.TooBig file) = (detail.File file, detail.Nothing)
tree_details (tree_fault.BadMenuLine file line) = (detail.File file, detail.Line line)
tree_details (tree_fault.Twice file) = (detail.File file, detail.Nothing)
tree_details why = (detail.Nothing, detail.Nothing)

-- what the line of a fault says after its number
abbrev pub details_of : ProgramFault → Detail × Detail
details_of (fault.Replay (replay_fault.BadScript line)) = (detail.Line line, detail.Nothing)
details_of (fault.Site (site.Tree why how)) = tree_details why
details_of (fault.Site (site.Settings (settings_fault.Missing key))) =
    (detail.Key key, detail.Nothing)
details_of (fault.Site (site.Settings (settings_fault.WrongKind key))) =
    (detail.Key key, detail.Nothing)
details_of (fault.Site (site.Settings (settings_fault.OutOfRange key))) =
    (detail.Key key, detail.Nothing)
details_of (fault.Site (site.SeedOutOfScope seed)) = (detail.Seed seed, detail.Nothing)
details_of (fault.Aliases (alias_fault.BadLine line)) = (detail.Line line, detail.Nothing)
details_of (fault.Open (open_fault.SeedOutOfScope seed)) = (detail.Seed seed, detail.Nothing)
details_of why = (detail.Nothing, detail.Nothing)

abbrev pub detail_bytes : Detail → List ℕ
detail_bytes detail.Nothing = []
detail_bytes (detail.Key key) = codes " " ++ key_name key
detail_bytes (detail.File file) = codes " file " ++ decimal file
detail_bytes (detail.Seed seed) = codes " seed " ++ decimal seed
detail_bytes (detail.Line line) = codes " line " ++ decimal line

abbrev pub details_bytes : Detail × Detail → List ℕ
details_bytes details = detail_bytes details.0 ++ detail_bytes details.1

-- the line of a number and two details
abbrev pub line_bytes : ℕ → Detail × Detail → List ℕ
line_bytes code details =
    (codes "hole: " ++ decimal code) ++ (details_bytes details ++ 10 ∷ [])

-- the line of a fault
abbrev pub fault_line : ProgramFault → List ℕ
fault_line why = line_bytes (program_fault_code why) (details_of why)

-- a place that failed so often before isn't tried again, if it is tried so often
abbrev pub is_last_try : ℕ → ℕ → Bool
is_last_try failed tries = nat_le tries (failed + 1)

-- the name of a reason
abbrev pub reason_name : Why → List ℕ
reason_name Connect = codes "connect"
reason_name Read = codes "read"
reason_name Write = codes "write"
reason_name TooLong = codes "too long"
reason_name NoMemory = codes "memory"
