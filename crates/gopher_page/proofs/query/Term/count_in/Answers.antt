use Rattle.std.proofs.Common.{◌∙◌}
use Rattle.gopher_page.specs.Counts.{count_meant}
use Rattle.gopher_page.specs.Query.{count_of_term}
use Rattle.gopher_page.proofs.query.Term.count_in.Goals as goal

pub returns : goal.returns
unfolding count_of_term
returns c = c.count_meant.ensures ∙ (λ j. count_meant (c.is_prefix.ensures j) (c.word.ensures j) (c.counts.ensures j))
