use Rattle.std.proofs.Common.{false, ◌++◌, get_or, map, take, sym, ap, ◌∙◌, arith}
use Rattle.std.specs.Arc.{arc_value}
use Rattle.gopher_page.specs.Counts.{count_meant}
use Rattle.gopher_page.specs.Page.{PageData}
use Rattle.gopher_index.specs.Answer.{occurring}
use Rattle.gopher_index.proofs.Found.{found_so_far, found_page}
use Rattle.gopher_index.proofs.Lists.{made-at, map-next}
use Rattle.gopher_index.proofs.occurrences.push_counted.Goals as goal

pub loop-index-init : goal.loop-index-init
loop-index-init c = λ word e. found_so_far word c.args.found.now.items

pub loop-index-preserved : goal.loop-index-preserved
loop-index-preserved c = λ word counted.
    found_page word c.args.found.now.items c.loop-index.found.items c.push_page.new.found.items (map arc_value (take c.loop-index.index c.args.pages.now)) (arc_value c.index-pages-index.result) c.deref.result.now (get_or c.args.counts.now c.loop-index.index 0)
    c.deref.ensures
    (made-at (λ (page : PageData). count_meant false word page.counts) arc_value c.args.pages.now c.args.counts.now c.loop-index.index c.index-pages-index.result 0 (omega arith) c.index-pages-index.is counted)
    (c.loop-index.invariant word counted) c.in_ok-push_page.ensures.adds
    ∙ ap (λ pages. c.args.found.now.items ++ occurring word pages) (sym (map-next arc_value c.args.pages.now c.loop-index.index c.index-pages-index.result (omega arith) c.index-pages-index.is))
