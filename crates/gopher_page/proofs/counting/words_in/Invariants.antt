use Rattle.std.proofs.Common.{◌≡◌, ◌++◌, length}
use Rattle.gopher_page.specs.Words.{bare_words}
use Rattle.gopher_page.proofs.counting.words_in.Given as goal

abbrev pub invariant-loop-word : goal.invariant-loop-word
invariant-loop-word l = l.words.items ++ bare_words l.rest ≡ bare_words l.text

abbrev pub decreases-loop-word : goal.decreases-loop-word
decreases-loop-word l = length l.rest
