use Rattle.std.proofs.Common.{◌≡◌, ◌++◌, length}
use Rattle.gopher_page.specs.Words.{words_of}
use Rattle.gopher_page.proofs.word.words.Given as goal

abbrev pub invariant-loop-word : goal.invariant-loop-word
invariant-loop-word l = l.found.items ++ words_of l.rest ≡ words_of l.bytes

abbrev pub decreases-loop-word : goal.decreases-loop-word
decreases-loop-word l = length l.rest
