use Rattle.std.proofs.Common.{sym, ◌∙◌}
use Rattle.gopher_page.proofs.Leading.{tied_order}
use Rattle.gopher_page.proofs.numbered.cmp_tied.Goals as goal

pub returns-then-other-le8 : goal.returns-then-other-le8
returns-then-other-le8 c =
    c.cmp.ensures
    ∙ sym (tied_order 8 c.args.word.now c.args.other.now c.requires.word c.requires.other c.if-word-le8.true c.if-other-le8.true c.requires.tied)
