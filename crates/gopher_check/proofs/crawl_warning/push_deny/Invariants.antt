use Rattle.std.proofs.Common.{◌≡◌, ◌++◌, drop}
use Rattle.std.specs.List.{enumerate_from, filter_map}
use Rattle.std.specs.Option.{option_map}
use Rattle.gopher_check.specs.CrawlWarning.{deny_mistake, deny_mistakes}
use Rattle.gopher_check.specs.declared.crawl_warning.CrawlWarning.TheVariants as warning
use Rattle.gopher_check.proofs.crawl_warning.push_deny.Given as goal

abbrev pub invariant-loop-index : goal.invariant-loop-index
invariant-loop-index l =
    l.out.items ++ filter_map (λ r. option_map (warning.Deny r.0) (deny_mistake l.home r.1)) (enumerate_from l.index (drop l.index l.deny))
    ≡ l.fn.out.items ++ deny_mistakes l.home l.deny
