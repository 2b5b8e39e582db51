use Rattle.std.proofs.Common.{◌==◌, ◌∙◌, not, get_or, refl, ap, arith}
use Rattle.std.proofs.lemmas.Bool.{agree_below_at}
use Rattle.gopher_page.specs.Words.{is_word_byte}
use Rattle.gopher_page.specs.declared.word.TheConstants.{WORD_BYTES}
use Rattle.gopher_page.proofs.word.is_word_byte.Goals as goal

pub returns : goal.returns
returns c =
    agree_below_at (λ byte. not (get_or WORD_BYTES byte 0 == 0)) is_word_byte 256 c.from.result refl (omega (arith, c.from.ensures, c.ranges.byte.fits))
    ∙ ap is_word_byte c.from.ensures
