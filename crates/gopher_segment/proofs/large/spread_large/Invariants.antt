use Rattle.std.proofs.Common.{◌≡◌, List, ℕ, drop, get_or, length, map}
use Rattle.std.specs.Arc.{arc_value}
use Rattle.gopher_segment.specs.Segment.{meant_counts}
use Rattle.gopher_segment.proofs.LargeLemmas.{written}
use Rattle.gopher_segment.proofs.large.spread_large.Given as goal

abbrev pub invariant-loop-at : goal.invariant-loop-at
invariant-loop-at l =
    let counts : List ℕ = meant_counts l.is_prefix l.sought (map arc_value l.pages) in
    record {
      each : length l.cells ≡ length l.pages;
      rest : written (λ at. get_or counts at 0) (drop l.at-index l.large) l.cells ≡ counts;
    }
