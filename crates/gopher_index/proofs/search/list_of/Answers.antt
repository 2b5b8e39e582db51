use Rattle.std.proofs.Common.{◌≡◌, [], ◌∷◌, sym, subst, ◌∙◌, arith}
use Rattle.gopher_page.specs.Query.{BeginsWithAnd}
use Rattle.gopher_index.proofs.PostingLemmas.{alone_is, listed}
use Rattle.gopher_index.proofs.search.list_of.Goals as goal

pub returns-in-len1 : goal.returns-in-len1
returns-in-len1 c =
    let term = c.term-item.result in
    let alone : c.args.terms.now ≡ term ∷ [] = alone_is c.args.terms.now term (omega (arith, c.in-len1.len_at_least, c.in-len1.len_below)) c.term-item.is in
    listed c.args.terms.now c.args.part.now term c.word.result.now c.postings.result alone (subst BeginsWithAnd alone c.requires.first) (sym c.is_prefix.ensures ∙ c.if-not-is_prefix.true) c.word.ensures c.postings.ensures.run c.postings.ensures.beside
