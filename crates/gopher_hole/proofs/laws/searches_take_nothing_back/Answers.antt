use Rattle.gopher_hole.proofs.SiteLeads.{nothing_back}
use Rattle.gopher_hole.proofs.laws.searches_take_nothing_back.Goals as goal

pub returns : goal.returns
returns c = nothing_back
