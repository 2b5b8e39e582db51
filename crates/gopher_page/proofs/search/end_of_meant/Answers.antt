use Rattle.std.proofs.Common.{◌+◌, sym, subst}
use Rattle.gopher_page.specs.Counts.{is_meant, FailsAt}
use Rattle.gopher_page.proofs.Sought.{one_word_meant}
use Rattle.gopher_page.proofs.search.end_of_meant.Goals as goal

pub returns-then-is_meant_at-clause-others : goal.returns-then-is_meant_at-clause-others
returns-then-is_meant_at-clause-others c =
    subst (λ b. FailsAt (is_meant b c.args.sought.now) c.args.words.now (c.args.start + 1)) (sym c.if-is_prefix.false)
    (one_word_meant c.args.words.now c.requires.order c.args.sought.now c.args.start c.requires.here)
