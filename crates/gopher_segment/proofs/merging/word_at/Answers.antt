use Rattle.std.proofs.Common.{Some, sym, ap, ◌∙◌}
use Rattle.gopher_segment.proofs.RowLemmas.{first_word-drop}
use Rattle.gopher_segment.proofs.merging.word_at.Goals as goal

pub returns-then-at-len : goal.returns-then-at-len
returns-then-at-len c = ap Some c.new.ensures ∙ sym c.word.ensures ∙ first_word-drop c.args.table.now c.args.at
