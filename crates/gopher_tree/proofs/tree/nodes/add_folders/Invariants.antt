use Rattle.std.proofs.Common.{◌<◌, ◌≤◌, length}
use Rattle.gopher_tree.specs.Path.{folders_within}
use Rattle.gopher_tree.specs.Tree.{AddsFolders}
use Rattle.gopher_tree.proofs.tree.nodes.add_folders.Given as goal

abbrev pub invariant-loop-place : goal.invariant-loop-place
invariant-loop-place l = record {
  some : 0 < l.place;
  within : l.place ≤ length l.path;
  added : AddsFolders l.fn.nodes l.nodes (folders_within l.place l.path);
}
