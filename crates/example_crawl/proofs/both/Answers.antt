use Rattle.example_crawl.proofs.Telling.{alike}
use Rattle.example_crawl.proofs.both.Goals as goal

pub returns : goal.returns
returns g c = alike _ _ _ _ _ _ _ _ c.in_ok-one.ensures c.in_ok-other.ensures
