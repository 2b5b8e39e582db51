use Rattle.std.proofs.Common.{◌≡◌, ◌++◌, drop}
use Rattle.std.specs.List.{enumerate_from, filter_map}
use Rattle.std.specs.Option.{option_map}
use Rattle.gopher_check.specs.CrawlWarning.{seed_mistake, seed_mistakes}
use Rattle.gopher_check.specs.declared.crawl_warning.CrawlWarning.TheVariants as warning
use Rattle.gopher_check.proofs.crawl_warning.push_seeds.Given as goal

abbrev pub invariant-loop-index : goal.invariant-loop-index
invariant-loop-index l =
    l.out.items ++ filter_map (λ s. option_map (warning.Seed s.0) (seed_mistake l.tree l.home s.1)) (enumerate_from l.index (drop l.index l.seeds))
    ≡ l.fn.out.items ++ seed_mistakes l.tree l.home l.seeds
