use Rattle.std.proofs.Common.{◌∙◌}
use Rattle.gopher_page.proofs.Tokens.{is_some-word}
use Rattle.gopher_page.proofs.title.has_word.Goals as goal

pub returns : goal.returns
returns c =
    c.is_some.ensures ∙ is_some-word c.args.line.now c.next_token.result (λ found. (found.0.now, found.1)) (λ found. found.2.now) c.next_token.ensures.word
