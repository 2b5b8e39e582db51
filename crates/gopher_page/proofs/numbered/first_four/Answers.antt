use Rattle.std.proofs.Common.{refl, ◌∙◌}
use Rattle.gopher_page.proofs.Leading.{half_is}
use Rattle.gopher_page.proofs.numbered.first_four.Goals as goal

pub returns : goal.returns
returns c = c.from.ensures ∙ c.from_be_bytes.ensures ∙ half_is c.args.word.now _ _ _ _ refl refl refl refl
