-- The faults that a report lists, and what each names.
use Rattle.std.specs.Prelude.{ℕ, List, [], None, ◌∷◌, ◌++◌, Option, Some, map}
use Rattle.std.specs.List.{flat_map}
use Rattle.toml.specs.Data.{Members}
use Rattle.gopher_tree.specs.declared.fault.TreeFault.{TreeFault}
use Rattle.gopher_tree.specs.declared.fault.TreeFault.TheVariants as tree_fault
use Rattle.gopher_scope.specs.Rows.{all_keys}
use Rattle.gopher_scope.specs.Values.{key_spot}
use Rattle.gopher_scope.specs.Unknown.{Unknown, unknown_keys}
use Rattle.gopher_scope.specs.Settings.{key_fault}
use Rattle.gopher_scope.specs.declared.fault.SettingsFault.{SettingsFault}
use Rattle.gopher_scope.specs.declared.fault.SettingsFault.TheVariants as settings_fault
use Rattle.gopher_scope.specs.declared.fault.SiteFault.{SiteFault}
use Rattle.gopher_scope.specs.declared.fault.SiteFault.TheVariants as fault
use Rattle.gopher_scope.specs.declared.settings.key.Key.{Key}
use Rattle.gopher_scope.specs.declared.settings.tables.Spot.{Spot}
use Rattle.gopher_scope.specs.declared.report.obstacle.Obstacle.TheVariants as obstacle
use Rattle.gopher_scope.specs.declared.report.finding.Detail.{Detail}
use Rattle.gopher_scope.specs.declared.report.finding.Detail.TheVariants as detail

-- a fault, and what it names beside a path: a line, a key, a seed or a number; `name` is a key that
-- isn't known, or is given twice
pub record FindingData : Type 0 where
  pub fault : SiteFault
  pub line : Option ℕ
  pub detail : Detail
  pub name : List ℕ

-- the key, the seed, or the number over a limit that a fault names; `spot` is where in the array of
-- the key the fault is, `array` the key of the array that has an unknown key
abbrev pub detail_of : SiteFault → Option Spot → Option Key → Detail
detail_of (fault.Settings (settings_fault.Missing key)) spot array = detail.Value key spot
detail_of (fault.Settings (settings_fault.WrongKind key)) spot array = detail.Value key spot
detail_of (fault.Settings (settings_fault.OutOfRange key)) spot array = detail.Value key spot
detail_of (fault.Settings settings_fault.UnknownKey) spot array = detail.Name array
detail_of fault.KeyTwice spot array = detail.Name array
detail_of (fault.SeedOutOfScope seed) spot array = detail.Seed seed
detail_of (fault.Tree why (obstacle.LargeFile size)) spot array = detail.Size size
detail_of (fault.Tree why (obstacle.LargeSite size)) spot array = detail.Size size
detail_of (fault.Tree why (obstacle.ManyNodes size)) spot array = detail.Size size
detail_of why spot array = detail.Nothing

-- the line of a menu file that a fault names
abbrev pub line_of_fault : TreeFault → Option ℕ
line_of_fault (tree_fault.BadMenuLine file line) = Some line
line_of_fault why = None

-- a fault that names no key in an array
abbrev pub finding_at : SiteFault → Option ℕ → List ℕ → FindingData
finding_at why line name =
    record { fault = why; line = line; detail = detail_of why None None; name = name }

abbrev pub unknown_finding : Unknown → FindingData
unknown_finding (array, name) =
    record {
      fault = fault.Settings settings_fault.UnknownKey;
      line = None;
      detail = detail.Name array;
      name = name;
    }

-- the fault of a key's value, at this spot of its array
abbrev pub value_finding : Option Spot → SettingsFault → FindingData
value_finding spot why =
    record {
      fault = fault.Settings why;
      line = None;
      detail = detail_of (fault.Settings why) spot None;
      name = [];
    }

-- the fault of a key, if it has one, at this spot of its array
abbrev pub key_finding : Option Spot → Option SettingsFault → List FindingData
key_finding spot None = []
key_finding spot (Some why) = value_finding spot why ∷ []

abbrev pub key_findings : Members → List Key → List FindingData
key_findings table keys =
    flat_map (λ key. key_finding (key_spot table key) (key_fault table key)) keys

-- each unknown key, and each key with a fault
abbrev pub table_findings : Members → List FindingData
table_findings table =
    map unknown_finding (unknown_keys table) ++ key_findings table all_keys
