use Rattle.std.proofs.Common.{◌≡◌, ◌++◌, drop}
use Rattle.std.specs.List.{enumerate_from, filter_map}
use Rattle.std.specs.Option.{option_map}
use Rattle.gopher_check.specs.CrawlWarning.{allow_mistake, allow_mistakes}
use Rattle.gopher_check.specs.declared.crawl_warning.CrawlWarning.TheVariants as warning
use Rattle.gopher_check.proofs.crawl_warning.push_allow.Given as goal

abbrev pub invariant-loop-index : goal.invariant-loop-index
invariant-loop-index l =
    l.out.items ++ filter_map (λ r. option_map (warning.Allow r.0) (allow_mistake l.tree l.home l.allow r.1)) (enumerate_from l.index (drop l.index l.allow))
    ≡ l.fn.out.items ++ allow_mistakes l.tree l.home l.allow
