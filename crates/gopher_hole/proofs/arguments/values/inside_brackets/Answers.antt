use Rattle.std.proofs.Common.{lit<}
use Rattle.std.proofs.lemmas.Str.Pattern.{strip_prefix_char, strip_suffix_char}
use Rattle.gopher_hole.proofs.Multiples.{at_some, bracketed, unopened}
use Rattle.gopher_hole.proofs.arguments.values.inside_brackets.Goals as goal

pub returns-in_default : goal.returns-in_default
returns-in_default c =
    let text = c.args.argument.now in
    unopened _ text c.strip_prefix.result (strip_prefix_char 91 text c.strip_prefix.result c.strip_prefix.ensures.cases (lit< tt)) c.in_default.is

pub returns : goal.returns
returns c =
    let text = c.args.argument.now in
    let rest = c.in-Some.rest.now in
    bracketed (λ it. it.now) text rest c.strip_suffix.result
    (at_some _ _ c.strip_prefix.result c.in-Some.rest (strip_prefix_char 91 text c.strip_prefix.result c.strip_prefix.ensures.cases (lit< tt)) c.in-Some.is)
    (strip_suffix_char 93 rest c.strip_suffix.result c.strip_suffix.ensures.cases (lit< tt))
