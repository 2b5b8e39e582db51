use Rattle.std.proofs.Common.{◌≡◌, ◌<◌, ◌≤◌, length}
use Rattle.std.specs.List.{list_any}
use Rattle.gopher_tree.specs.Path.{folders_within}
use Rattle.gopher_tree.specs.Files.{is_file}
use Rattle.gopher_tree.proofs.tree.Tree.leads_through_file.Given as goal

abbrev pub invariant-loop-place : goal.invariant-loop-place
invariant-loop-place l = record {
  some : 0 < l.place;
  within : l.place ≤ length l.path;
  found : l.leads ≡ list_any (is_file l.self) (folders_within l.place l.path);
}
