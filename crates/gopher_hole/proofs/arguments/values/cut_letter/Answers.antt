use Rattle.std.proofs.Common.{lit<, refl, inl}
use Rattle.std.proofs.lemmas.Str.Pattern.{strip_suffix_char}
use Rattle.gopher_hole.proofs.Multiples.{lacks}
use Rattle.gopher_hole.proofs.arguments.values.cut_letter.Goals as goal

pub returns : goal.returns
returns c =
    let text = c.args.argument.now in
    inl (
      refl,
      refl,
      lacks _ 75 text c.strip_suffix.result (strip_suffix_char 75 text c.strip_suffix.result c.strip_suffix.ensures.cases (lit< tt)) c.in_default.is,
      lacks _ 77 text c.strip_suffix-2.result (strip_suffix_char 77 text c.strip_suffix-2.result c.strip_suffix-2.ensures.cases (lit< tt)) c.in_default-strip_suffix.is,
      lacks _ 71 text c.strip_suffix-3.result (strip_suffix_char 71 text c.strip_suffix-3.result c.strip_suffix-3.ensures.cases (lit< tt)) c.in_default-strip_suffix-2.is,
    )
