-- The reports of a check: on a fault, on a site, and the one that a text of settings gets, with the
-- place in the text that it names.
use Rattle.std.specs.Prelude.{◌≡◌, ◌≢◌, ℕ, ◌+◌, ◌-◌, ◌==◌, List, [], take, drop, count_by, None, ◌∷◌, ◌++◌, Option, Some, Bool, true, false, Result, ◌⊎◌, Ok, Err, if◌then◌else◌}
use Rattle.toml.specs.Errors.{IsMemory, IsWithin, span_start, span_end}
use Rattle.toml.specs.Parse.{parse_document}
use Rattle.toml.specs.declared.de.error.Error.{Error}
use Rattle.gopher_bytes.specs.Lines.{cut_at}
use Rattle.gopher_bytes.specs.Trim.{trim_spaces}
use Rattle.gopher_item.specs.Menu.{first_field}
use Rattle.toml.specs.Data.{Members}
use Rattle.gopher_item.specs.Scope.{first_outside}
use Rattle.gopher_scope.specs.Settings.{SettingsData, settings_data, settings_of}
use Rattle.gopher_scope.specs.declared.fault.SettingsFault.{SettingsFault}
use Rattle.gopher_tree.specs.Files.{File, is_missing}
use Rattle.gopher_tree.specs.declared.load.trail.Trail.{Trail}
use Rattle.gopher_tree.specs.declared.fault.TreeFault.{TreeFault}
use Rattle.gopher_tree.specs.Load.{LoadsTo}
use Rattle.gopher_tree.specs.Leaving.{LoadsLeaving}
use Rattle.gopher_tree.specs.declared.load.left_out.LeftOut.{LeftOut}
use Rattle.gopher_scope.specs.Finding.{FindingData, finding_at, line_of_fault, table_findings}
use Rattle.gopher_scope.specs.Obstacle.{IsReason}
use Rattle.gopher_scope.specs.declared.report.obstacle.Obstacle.{Obstacle}
use Rattle.gopher_scope.specs.declared.report.settings_obstacle.SettingsObstacle.{SettingsObstacle}
use Rattle.gopher_scope.specs.declared.report.whole_site.SiteSize.{SiteSize}
use Rattle.gopher_scope.specs.declared.report.fault_report.Remark.{Remark}
use Rattle.gopher_scope.specs.declared.report.fault_report.Remark.TheVariants as remark
use Rattle.gopher_scope.specs.declared.report.site_warning.Unserved.{Unserved}
use Rattle.gopher_scope.specs.declared.fault.SiteFault.{SiteFault}
use Rattle.gopher_scope.specs.declared.report.Report.{Report}
use Rattle.gopher_scope.specs.declared.report.Report.TheVariants as report
use Rattle.gopher_scope.specs.declared.fault.SettingsFault.TheVariants as settings_fault
use Rattle.gopher_scope.specs.declared.report.obstacle.Obstacle.TheVariants as obstacle
use Rattle.gopher_scope.specs.declared.fault.SiteFault.TheVariants as fault

-- ---- places in the text

-- the key of a piece of TOML: without spaces around it, before the first `=`
abbrev pub key_of : List ℕ → List ℕ
key_of piece = trim_spaces (first_field (cut_at 61 piece))

-- the text isn't TOML, and this fault of the parser says where: its span is within the text; a
-- fault because memory ran out says nothing of a text
abbrev pub IsTomlFault : List ℕ → Error → Type 0
IsTomlFault text fault =
    (parse_document text ≡ None) × (¬ IsMemory fault) × IsWithin text fault

-- the number of the line, from 1, at which the parser's fault begins
abbrev pub toml_fault_line : List ℕ → Error → ℕ
toml_fault_line text fault = count_by (λ byte. byte == 10) (take (span_start fault) text) + 1

-- the key of the piece of the text that is the parser's fault; it isn't empty
abbrev pub IsKeyOf : List ℕ → Error → List ℕ → Type 0
IsKeyOf text fault key =
    (key ≢ [])
    × (key ≡ key_of (take (span_end fault - span_start fault) (drop (span_start fault) text)))

-- ---- reports

-- the report is that of a site with this fault, of the file or folder at a path; it lists these
-- findings
abbrev pub IsReport : SiteFault → List ℕ → List FindingData → Remark → Report → Type 0
IsReport why path findings remarked (report.Faulty told) =
    (told.fault ≡ why) × (told.path.items ≡ path) × (told.findings.items ≡ findings)
    × (told.remark ≡ remarked)
IsReport why path findings remarked (report.Sound site) = ⊥

-- the report is that of a fault which names no key in an array
abbrev pub IsReportOf : SiteFault → List ℕ → Option ℕ → List ℕ → Report → Type 0
IsReportOf why path line name told =
    IsReport why path (finding_at why line name ∷ []) remark.Nothing told

-- the report is that of a settings file that can't be read, for some reason
abbrev pub IsReportOnUnread : List ℕ → Report → Type 0
IsReportOnUnread path told =
    (how : SettingsObstacle) × IsReportOf (fault.SettingsUnreadable how) path None [] told

-- a root that begins with `~` (126) and isn't there was meant to be below the home of a user
abbrev pub hint : List ℕ → Obstacle → Remark
hint (byte ∷ more) obstacle.Missing = if byte == 126 then remark.Tilde else remark.Nothing
hint root how = remark.Nothing

-- the remark has the size of the whole site
abbrev pub IsOnWholeSite : Remark → Type 0
IsOnWholeSite remarked = (size : SiteSize) × (remarked ≡ remark.WholeSite size)

-- what a report adds to the fault of the folder `root`: the size of the whole site if this has too
-- many bytes or too many nodes, or a hint
abbrev pub IsRemark : List ℕ → Obstacle → Remark → Type 0
IsRemark root (obstacle.LargeSite size) remarked = IsOnWholeSite remarked
IsRemark root (obstacle.ManyNodes size) remarked = IsOnWholeSite remarked
IsRemark root how remarked = remarked ≡ hint root how

-- the report is the one on a fault of a folder at the end of a trail
abbrev pub IsReportOnFolder : TreeFault → List ℕ → Trail → Report → Type 0
IsReportOnFolder why root trail told =
    (how : Obstacle) × (remarked : Remark) × IsReason why trail how × IsRemark root how remarked
    × IsReport (fault.Tree why how) (root ++ 47 ∷ trail.path.items)
    (finding_at (fault.Tree why how) (line_of_fault why) [] ∷ []) remarked told

-- these numbers are those of the empty folders, of the links to nothing and devices, and of the
-- hidden names that a walk met
abbrev pub IsUnserved : List File → Trail → Unserved → Type 0
IsUnserved files trail unserved =
    (unserved.empty ≡ count_by (λ path. is_missing files path.items) trail.folders.items)
    × (unserved.nowhere ≡ trail.nowhere) × (unserved.hidden ≡ trail.hidden)

-- the report is that of a site without a fault, with what was left out, and what the walk met that
-- isn't served
abbrev pub IsSoundReport : SettingsData → List File → Trail → List LeftOut → Report → Type 0
IsSoundReport settings files trail left (report.Faulty told) = ⊥
IsSoundReport settings files trail left (report.Sound site) =
    (settings_data site.settings ≡ settings) × (site.tree ≡ files) × (site.left_out.items ≡ left)
    × IsUnserved files trail site.unserved

-- loading a folder returns its tree, or fails; if what can't be served is left out, `left` has it
abbrev pub LoadsAs : Bool → Trail → List LeftOut → Result (List File) TreeFault → Type 0
LoadsAs true trail left result = LoadsTo trail result × LoadsLeaving true trail [] left result
LoadsAs false trail left result = LoadsTo trail result × (left ≡ [])

-- the report is the one on settings whose folder has these files: without a fault, or on the first
-- seed that the scope doesn't allow
abbrev pub IsReportOnSeeds : List ℕ → SettingsData → List File → Trail → List LeftOut
    → Option ℕ → Report → Type 0
IsReportOnSeeds path settings files trail left None told =
    IsSoundReport settings files trail left told
IsReportOnSeeds path settings files trail left (Some seed) told =
    IsReportOf (fault.SeedOutOfScope seed) path None [] told

-- the report is the one on settings and their folder, of which what can't be served may be left
-- out: on the folder or, if it has no fault, on the seeds
abbrev pub IsReportOnLoaded : List ℕ → SettingsData → Trail → List LeftOut
    → Result (List File) TreeFault → Report → Type 0
IsReportOnLoaded path settings trail left (Ok files) told =
    IsReportOnSeeds path settings files trail left (first_outside settings.scope settings.seeds)
    told
IsReportOnLoaded path settings trail left (Err why) told =
    IsReportOnFolder why settings.root trail told

abbrev pub IsReportOnSite : Bool → List ℕ → SettingsData → Report → Type 0
IsReportOnSite leaves path settings told =
    (trail : Trail) × (left : List LeftOut) × (loaded : Result (List File) TreeFault)
    × LoadsAs leaves trail left loaded × IsReportOnLoaded path settings trail left loaded told

-- the report is the one on a text that isn't TOML: with the line at which the parser's fault
-- begins, and the key there if it is given twice
abbrev pub IsReportOnBroken : List ℕ → List ℕ → Error → Report → Type 0
IsReportOnBroken path text broken told =
    IsReportOf (fault.Settings settings_fault.NotToml) path (Some (toml_fault_line text broken)) []
    told
    ⊎ ((key : List ℕ) × IsKeyOf text broken key
    × IsReportOf fault.KeyTwice path (Some (toml_fault_line text broken)) key told)

-- the report is that of memory that ran out
abbrev pub IsReportOnMemory : List ℕ → Report → Type 0
IsReportOnMemory path = IsReportOf (fault.Settings settings_fault.NoMemory) path None []

-- the report is the one on a table of settings: on the site that they describe, or on all faults of
-- the table with the first of them, or of memory that ran out
abbrev pub IsReportOnTable : Bool → List ℕ → Members → Report → Type 0
IsReportOnTable leaves path table told =
    ((settings : SettingsData) × (settings_of (Some table) ≡ Ok settings)
    × IsReportOnSite leaves path settings told)
    ⊎ (((why : SettingsFault) × (settings_of (Some table) ≡ Err why)
    × IsReport (fault.Settings why) path (table_findings table) remark.Nothing told)
    ⊎ IsReportOnMemory path told)

-- the report is the one on a text of settings: on their table, or on a text that isn't TOML, or of
-- memory that ran out
abbrev pub IsReportOnText : Bool → List ℕ → List ℕ → Report → Type 0
IsReportOnText leaves path text told =
    ((table : Members) × (parse_document text ≡ Some table)
    × IsReportOnTable leaves path table told)
    ⊎ (((broken : Error) × IsTomlFault text broken × IsReportOnBroken path text broken told)
    ⊎ IsReportOnMemory path told)
