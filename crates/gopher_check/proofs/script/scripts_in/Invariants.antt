use Rattle.std.proofs.Common.{◌≡◌, take}
use Rattle.gopher_check.specs.Script.{lent_paths, scripts_in}
use Rattle.gopher_check.proofs.script.scripts_in.Given as goal

abbrev pub invariant-loop-path : goal.invariant-loop-path
invariant-loop-path l =
    lent_paths l.found.items ≡ scripts_in l.tree (lent_paths (take l.path-index l.paths))
