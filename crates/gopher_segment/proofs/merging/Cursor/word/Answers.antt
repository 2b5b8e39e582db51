use Rattle.std.proofs.Common.{ap, ◌∙◌}
use Rattle.gopher_segment.specs.Rows.{first_word}
use Rattle.gopher_segment.proofs.merging.Cursor.word.Goals as goal

pub returns : goal.returns
returns c = c.as_ref.ensures.value ∙ c.self.invariant.word_is ∙ ap first_word c.self.view_is
