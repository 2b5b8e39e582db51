use Rattle.std.proofs.Common.{◌≡◌, ◌∷◌, [], map, Err, refl, rules}
use Rattle.gopher_bytes.specs.Case.{lower_case}
use Rattle.gopher_page.specs.Words.{tokens_of}
use Rattle.gopher_page.specs.Query.{query_of, terms_of}
use Rattle.gopher_page.proofs.Terms.{query_of-runs}
use Rattle.gopher_page.specs.declared.fault.QueryFault.TheVariants.{NoMemory}
use Rattle.gopher_page.proofs.query.Query.read.Goals as goal

pub returns-in_default : goal.returns-in_default
returns-in_default c =
    let terms : query_of c.args.text.now ≡ [] = query_of-runs c.args.text.now [] c.in_default.ensures.word in
    rw terms refl

pub returns-in_err-terms_from : goal.returns-in_err-terms_from
returns-in_err-terms_from c =
    let terms : query_of c.args.text.now ≡ terms_of (record { word = map lower_case c.in-Some.token.now; is_prefix = c.in-Some.is_prefix } ∷ tokens_of c.in-Some.after.now) = query_of-runs c.args.text.now _ c.in-Some.ensures.word in
    let refused : c.from_residual.result ≡ Err NoMemory = search rules in
    rw (terms, refused) refl

pub returns : goal.returns
returns c =
    let terms : query_of c.args.text.now ≡ terms_of (record { word = map lower_case c.in-Some.token.now; is_prefix = c.in-Some.is_prefix } ∷ tokens_of c.in-Some.after.now) = query_of-runs c.args.text.now _ c.in-Some.ensures.word in
    rw terms c.in_ok-terms_from.ensures.terms
