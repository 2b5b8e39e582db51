use Rattle.gopher_index.proofs.PostingLemmas.{few_in_one, meant_few}
use Rattle.gopher_index.proofs.part.spread_page.Goals as goal

pub returns-clause-few : goal.returns-clause-few
returns-clause-few c = few_in_one c.args.cells.now c.count_meant.result c.requires (meant_few c.args.is_prefix c.args.sought.now c.counts-counts.result.now c.count_meant.result c.count_meant.ensures c.len.ensures.counts)
