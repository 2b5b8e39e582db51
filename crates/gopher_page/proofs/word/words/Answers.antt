use Rattle.std.proofs.Common.{◌∙◌, ◌∷◌, ◌++◌, sym, ap, append_assoc}
use Rattle.std.proofs.lemmas.List.{append-nil}
use Rattle.gopher_page.specs.Words.{words_of}
use Rattle.gopher_page.proofs.Tokens.{words_of-next, words_of-none}
use Rattle.gopher_page.proofs.word.words.Goals as goal

pub loop-word-preserved : goal.loop-word-preserved
loop-word-preserved c =
    let rest = words_of c.in-Some.after.now in
    ap (λ l. l ++ rest) c.in_ok-push.ensures.items ∙ append_assoc c.loop-word.found.items _ rest
    ∙ ap (λ l. c.loop-word.found.items ++ l) (ap (λ word. word ∷ rest) c.in_ok-lower_cased.ensures ∙ sym (words_of-next c.loop-word.rest.now c.in-Some.after.now _ c.in-Some.ensures.word))
    ∙ c.loop-word.invariant

pub returns : goal.returns
returns c =
    sym (append-nil _) ∙ ap (λ l. c.loop-word.found.items ++ l) (sym (words_of-none c.loop-word.rest.now c.in_default.ensures.word)) ∙ c.loop-word.invariant
