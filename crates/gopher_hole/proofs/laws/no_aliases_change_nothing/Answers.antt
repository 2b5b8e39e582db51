use Rattle.gopher_hole.proofs.SiteLeads.{no_aliases}
use Rattle.gopher_hole.proofs.laws.no_aliases_change_nothing.Goals as goal

pub returns : goal.returns
returns c = no_aliases
