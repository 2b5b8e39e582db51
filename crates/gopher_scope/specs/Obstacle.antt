-- Why a walk of a folder stops: the limit that it passes, or an error of the system.
use Rattle.std.specs.Prelude.{◌≡◌, ℕ, ◌+◌, min, nat_lt, length, if◌then◌else◌}
use Rattle.std.specs.declared.io.ErrorKind.{ErrorKind}
use Rattle.std.specs.declared.io.ErrorKind.TheVariants as kind
use Rattle.gopher_scope.specs.declared.fault.SettingsFault.TheVariants as settings_fault
use Rattle.gopher_scope.specs.declared.settings.key.Key.TheVariants as key
use Rattle.gopher_tree.specs.declared.fault.TreeFault.{TreeFault}
use Rattle.gopher_tree.specs.declared.fault.TreeFault.TheVariants as tree_fault
use Rattle.gopher_tree.specs.declared.load.trail.Trail.{Trail}
use Rattle.gopher_scope.specs.declared.report.obstacle.Obstacle.{Obstacle}
use Rattle.gopher_scope.specs.declared.report.obstacle.Obstacle.TheVariants as obstacle
use Rattle.gopher_scope.specs.declared.report.settings_obstacle.SettingsObstacle.{SettingsObstacle}
use Rattle.gopher_scope.specs.declared.report.settings_obstacle.SettingsObstacle.TheVariants as unread
use Rattle.gopher_scope.specs.declared.fault.SiteFault.TheVariants as fault

-- the sum, unless it is over the largest number of 64 bits
abbrev pub capped_sum : ℕ → ℕ → ℕ
capped_sum one other = min (one + other) 18446744073709551615

-- the limit that a tree passes at the end of a trail, after `number` files, and by how much
abbrev pub excess : ℕ → Trail → Obstacle
excess number trail =
    if nat_lt 16777216 trail.size then obstacle.LargeFile trail.size
    else (if nat_lt 67108864 (capped_sum trail.bytes trail.size)
    then obstacle.LargeSite (capped_sum trail.bytes trail.size)
    else obstacle.ManyNodes (capped_sum (capped_sum (length trail.folders.items) number) 2))

-- the reason why a file or folder can't be read, by the kind of the system's error
abbrev pub obstacle_of : ErrorKind → Obstacle
obstacle_of kind.InvalidFilename = obstacle.NotUtf8
obstacle_of kind.PermissionDenied = obstacle.Denied
obstacle_of kind.NotFound = obstacle.Missing
obstacle_of kind.NotADirectory = obstacle.NotFolder
obstacle_of kind.FilesystemLoop = obstacle.Loop
obstacle_of _ = obstacle.Other

-- the reason why a settings file can't be read, by the kind of the system's error
abbrev pub settings_obstacle_of : ErrorKind → SettingsObstacle
settings_obstacle_of kind.PermissionDenied = unread.Denied
settings_obstacle_of kind.NotFound = unread.Missing
settings_obstacle_of kind.NotADirectory = unread.Missing
settings_obstacle_of kind.IsADirectory = unread.Folder
settings_obstacle_of kind.FilesystemLoop = unread.Loop
settings_obstacle_of _ = unread.Other

-- the reason why a walk stops at the end of its trail, as far as values decide it
abbrev pub IsReason : TreeFault → Trail → Obstacle → Type 0
IsReason (tree_fault.TooBig number) trail how = how ≡ excess number trail
IsReason (tree_fault.Unreadable number) trail how = Unit {0}
IsReason why trail how = how ≡ obstacle.Other
