use Rattle.std.proofs.Common.{◌++◌, take, sym, ap, ◌∙◌, arith}
use Rattle.gopher_index.specs.Answer.{occurring}
use Rattle.gopher_segment.specs.Segment.{pages_of}
use Rattle.gopher_index.proofs.Found.{found_none, found_both}
use Rattle.gopher_index.proofs.Segments.{pages-next}
use Rattle.gopher_index.proofs.occurrences.occurrences.Goals as goal

pub loop-part-init : goal.loop-part-init
loop-part-init c = c.new-found.ensures.items ∙ sym (found_none c.args.word.now)

pub loop-part-preserved : goal.loop-part-preserved
loop-part-preserved c =
    let done = pages_of (take c.loop-part.part-index c.args.parts.now) in
    c.in_ok-push_part.ensures ∙ ap (λ l. l ++ occurring c.args.word.now c.part-item.result.pages) c.loop-part.invariant
    ∙ sym (found_both c.args.word.now done c.part-item.result.pages)
    ∙ ap (occurring c.args.word.now) (sym (pages-next c.args.parts.now c.loop-part.part-index c.part-item.result (omega arith) c.part-item.is))
