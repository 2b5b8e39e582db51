use Rattle.gopher_catalogue.specs.Opening.{OpeningData}
use Rattle.gopher_check.specs.Crawl.{IsUnderWay, link_table}
use Rattle.gopher_check.proofs.crawl.finish.Given as goal

abbrev pub invariant-loop-turn : goal.invariant-loop-turn
invariant-loop-turn l =
    (opening : OpeningData) → IsUnderWay opening (link_table l.tree l.home) l.initial.crawl
    → IsUnderWay opening (link_table l.tree l.home) l.crawl
