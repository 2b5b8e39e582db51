use Rattle.std.proofs.Common.{◌≡◌, ℕ, List, ◌+◌, ◌<◌, ◌++◌, ◌∷◌, [], length, map, take, sym, ap, ◌∙◌, arith}
use Rattle.std.proofs.lemmas.List.{map_more}
use Rattle.std.specs.Arc.{arc_value}
use Rattle.gopher_segment.specs.Segment.{SegmentData}
use Rattle.gopher_segment.proofs.SegmentLemmas.{tables_push}
use Rattle.gopher_segment.proofs.segment.cursors_of.Goals as goal

pub loop-segment-preserved : goal.loop-segment-preserved
loop-segment-preserved c =
    let within : c.loop-segment.segment-index < length c.args.segments.now = omega arith in
    let segment : SegmentData = c.deref.result.now in
    let rows : List (List ℕ × List (ℕ × ℕ)) = c.table.result.now in
    let before : List SegmentData = map arc_value (take c.loop-segment.segment-index c.args.segments.now) in
    let done : List (List (List ℕ × List (ℕ × ℕ))) = c.loop-segment.cursors.items in
    let grown : c.push.new.self.items ≡ done ++ rows ∷ [] = c.in_ok-push.ensures.items ∙ ap (λ r. done ++ r ∷ []) c.new.ensures in
    let seen : map arc_value (take (c.loop-segment.segment-index + 1) c.args.segments.now) ≡ before ++ segment ∷ [] =
    map_more arc_value c.args.segments.now c.loop-segment.segment-index c.segment-item.result within
    ∙ ap (λ s. before ++ arc_value s ∷ []) (sym c.segment-item.is)
    ∙ ap (λ s. before ++ s ∷ []) (sym c.deref.ensures) in
    rw (grown, seen) (tables_push before done segment rows c.loop-segment.invariant c.table.ensures)
