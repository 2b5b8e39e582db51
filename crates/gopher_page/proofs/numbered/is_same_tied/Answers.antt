use Rattle.std.proofs.Common.{refl}
use Rattle.gopher_page.proofs.Leading.{tied_same}
use Rattle.gopher_page.proofs.numbered.is_same_tied.Goals as goal

pub returns-then-other-le8 : goal.returns-then-other-le8
returns-then-other-le8 c =
    tied_same _ c.args.word.now c.args.other.now c.requires.word c.requires.other c.if-word-le8.true c.if-other-le8.true c.requires.tied refl
