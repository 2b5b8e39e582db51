use Rattle.std.proofs.Common.{◌≡◌, ℕ, ◌++◌, List, [], length}
use Rattle.std.specs.List.{flat_map, zip}
use Rattle.std.specs.List.Sorted.{IsStrictlySortedBy}
use Rattle.std.specs.Ordering.{nat_cmp}
use Rattle.std.specs.Cmp.Lexicographic.{slice_cmp}
use Rattle.gopher_segment.specs.Rows.{postings_of, rows_left, AreAllInOrder, ComeBefore}
use Rattle.gopher_segment.proofs.merging.merge.Given as goal

abbrev pub invariant-loop-first : goal.invariant-loop-first
invariant-loop-first l = record {
  same : length l.runs.whole ≡ length l.words;
  ended : l.runs.begun ≡ [];
  order : IsStrictlySortedBy (slice_cmp nat_cmp) l.words;
  before : ComeBefore l.words l.cursors;
  orders : AreAllInOrder l.cursors;
  postings : (word : List ℕ) → postings_of word (zip l.words l.runs.whole) ++ flat_map (postings_of word) l.cursors ≡ flat_map (postings_of word) l.initial.cursors;
}

abbrev pub decreases-loop-first : goal.decreases-loop-first
decreases-loop-first l = rows_left l.cursors
