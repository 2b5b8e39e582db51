-- The numbers of the faults of a site.
use Rattle.std.specs.Prelude.{ℕ}
use Rattle.std.specs.declared.io.ErrorKind.TheVariants as kind
use Rattle.gopher_scope.specs.declared.fault.SettingsFault.{SettingsFault}
use Rattle.gopher_scope.specs.declared.fault.SettingsFault.TheVariants as settings_fault
use Rattle.gopher_scope.specs.declared.settings.key.Key.TheVariants as key
use Rattle.gopher_tree.specs.Fault.{tree_fault_code}
use Rattle.gopher_tree.specs.declared.fault.TreeFault.TheVariants as tree_fault
use Rattle.gopher_scope.specs.declared.report.obstacle.Obstacle.TheVariants as obstacle
use Rattle.gopher_scope.specs.declared.report.settings_obstacle.SettingsObstacle.TheVariants as unread
use Rattle.gopher_scope.specs.declared.fault.SiteFault.{SiteFault}
use Rattle.gopher_scope.specs.declared.fault.SiteFault.TheVariants as fault

abbrev pub settings_fault_code : SettingsFault → ℕ
settings_fault_code settings_fault.NotToml = 30
settings_fault_code (settings_fault.Missing key) = 31
settings_fault_code (settings_fault.WrongKind key) = 32
settings_fault_code (settings_fault.OutOfRange key) = 33
settings_fault_code settings_fault.UnknownKey = 34
settings_fault_code settings_fault.NoMemory = 90

abbrev pub site_fault_code : SiteFault → ℕ
site_fault_code (fault.Settings why) = settings_fault_code why
site_fault_code (fault.Tree why how) = tree_fault_code why
site_fault_code (fault.SeedOutOfScope seed) = 50
site_fault_code (fault.SettingsUnreadable how) = 80
site_fault_code fault.KeyTwice = settings_fault_code settings_fault.NotToml
