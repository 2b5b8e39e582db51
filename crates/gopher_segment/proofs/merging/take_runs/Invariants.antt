use Rattle.std.proofs.Common.{◌≡◌, ◌++◌, map, take, drop}
use Rattle.std.specs.List.{flat_map}
use Rattle.gopher_segment.specs.Rows.{passed, taken}
use Rattle.gopher_segment.proofs.merging.take_runs.Given as goal

abbrev pub invariant-loop-index : goal.invariant-loop-index
invariant-loop-index l = record {
  cursors_so_far : l.cursors ≡ map (passed l.word) (take l.index l.initial.cursors) ++ drop l.index l.initial.cursors;
  whole : l.runs.whole ≡ l.initial.runs.whole;
  begun : l.runs.begun ≡ l.initial.runs.begun ++ flat_map (taken l.word) (take l.index l.initial.cursors);
}
