use Rattle.gopher_check.proofs.ReachedTexts.{reached_texts}
use Rattle.gopher_check.proofs.laws.reached_texts_are_fetchable.Goals as goal

pub returns : goal.returns
returns c = reached_texts
