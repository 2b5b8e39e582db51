use Rattle.std.proofs.Common.{◌≡◌, ◌++◌, drop}
use Rattle.gopher_check.specs.Script.{lent_paths}
use Rattle.gopher_check.specs.TextWarning.{mistakes_at}
use Rattle.gopher_check.proofs.text_warning.push_paths.Given as goal

abbrev pub invariant-loop-path : goal.invariant-loop-path
invariant-loop-path l =
    l.out.items ++ mistakes_at l.tree (lent_paths (drop l.path-index l.paths))
    ≡ l.fn.out.items ++ mistakes_at l.tree (lent_paths l.paths)
