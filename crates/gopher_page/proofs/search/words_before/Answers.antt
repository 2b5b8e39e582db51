use Rattle.std.proofs.Common.{◌<◌, arith, rules}
use Rattle.gopher_page.specs.Counts.{is_before, FailsAt, LastPasses}
use Rattle.gopher_page.proofs.Sought.{bounds_forward, settled}
use Rattle.gopher_page.proofs.search.words_before.Goals as goal

pub first_index-requires-clause-order : goal.first_index-requires-clause-order
first_index-requires-clause-order c =
    bounds_forward c.args.words.now c.requires c.args.sought.now c.low_bound-low.result c.high_bound-high.result c.low_bound-low.ensures.within c.low_bound-low.ensures.before c.high_bound-high.ensures.here

pub returns-clause-before : goal.returns-clause-before
returns-clause-before c =
    settled (LastPasses (λ word. is_before word c.args.sought.now) c.args.words.now 0) c.low_bound-low.result c.first_index.result c.low_bound-low.ensures.before
    (λ apart some. let more : c.low_bound-low.result < c.first_index.result = omega (arith, apart, c.first_index.ensures.forward) in search rules)

pub returns-clause-here : goal.returns-clause-here
returns-clause-here c =
    settled (FailsAt (λ word. is_before word c.args.sought.now) c.args.words.now) c.high_bound-high.result c.first_index.result c.high_bound-high.ensures.here
    (λ apart inside. let less : c.first_index.result < c.high_bound-high.result = omega (arith, apart, c.first_index.ensures.within) in search rules)
