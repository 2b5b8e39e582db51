use Rattle.std.proofs.Common.{◌≡◌, ◌+◌, ◌<◌, ◌≤◌, length, fold}
use Rattle.gopher_tree.specs.Path.{folders_within}
use Rattle.gopher_tree.specs.Files.{add_path, nodes}
use Rattle.gopher_tree.proofs.tree.Tree.new_nodes.Given as goal

abbrev pub invariant-loop-place : goal.invariant-loop-place
invariant-loop-place l = record {
  few : l.count < l.place;
  within : l.place ≤ length l.path;
  counted : length (fold add_path (nodes l.self) (folders_within l.place l.path)) ≡ length (nodes l.self) + l.count;
}
