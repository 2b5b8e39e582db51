use Rattle.std.proofs.Common.{◌∙◌, sym}
use Rattle.gopher_check.specs.Crawl.{taken_outcome, link_table}
use Rattle.gopher_check.proofs.UnderWay.{crawl_finished, visited}
use Rattle.gopher_check.proofs.crawl.finish.Goals as goal

pub returns-then-is_finished : goal.returns-then-is_finished
returns-then-is_finished c opening way =
    crawl_finished opening (link_table c.args.tree.now c.args.home.now) c.loop-turn.crawl
    (sym c.is_finished.ensures.finished ∙ c.if-is_finished.true)
    (c.loop-turn.invariant opening way)

pub loop-turn-preserved : goal.loop-turn-preserved
loop-turn-preserved c opening way =
    visited opening (taken_outcome c.args.tree.now c.args.home.now) c.loop-turn.crawl c.visit.new.crawl
    c.in_ok-visit.ensures.legal c.in_ok-visit.ensures.after (c.loop-turn.invariant opening way)
