use Rattle.std.proofs.Common.{◌≡◌, None, IfSome, take}
use Rattle.gopher_index.specs.Best.{IsBestOf}
use Rattle.gopher_segment.specs.Segment.{pages_of}
use Rattle.gopher_index.proofs.search.best_of.Given as goal

abbrev pub invariant-loop-part : goal.invariant-loop-part
invariant-loop-part l = record {
  best : IsBestOf l.query (pages_of (take l.part-index l.parts)) l.best;
  first : IfSome l.wanted (λ _. l.part-index ≡ 0);
  plain : l.fn.likely ≡ None → (l.wanted ≡ None) × (l.best.least ≡ 0);
}
