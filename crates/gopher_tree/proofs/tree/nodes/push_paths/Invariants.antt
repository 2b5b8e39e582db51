use Rattle.std.proofs.Common.{◌≡◌, ◌++◌, [], ◌∷◌, map}
use Rattle.std.specs.BTreeMap.{keys}
use Rattle.gopher_tree.proofs.tree.nodes.push_paths.Given as goal

abbrev pub invariant-loop-path : goal.invariant-loop-path
invariant-loop-path l = map (λ path. path.now) l.paths.items ++ map (λ key. key.items) l.path-iterator ≡ [] ∷ map (λ key. key.items) (keys l.nodes)
