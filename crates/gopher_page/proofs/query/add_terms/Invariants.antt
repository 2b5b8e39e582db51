use Rattle.std.proofs.Common.{◌≡◌, ◌+◌, ◌≤◌, ◌++◌, length}
use Rattle.gopher_page.specs.declared.query.Operator.TheVariants.{And}
use Rattle.gopher_page.specs.Words.{tokens_of}
use Rattle.gopher_page.specs.Query.{terms_after}
use Rattle.gopher_page.proofs.query.add_terms.Given as goal

abbrev pub invariant-loop-token : goal.invariant-loop-token
invariant-loop-token l = record {
  terms : l.terms.items ++ terms_after l.operator (tokens_of l.rest) ≡ l.fn.terms.items ++ terms_after And (tokens_of l.text);
  few : length l.terms.items + length l.rest ≤ length l.fn.terms.items + length l.text;
}

abbrev pub decreases-loop-token : goal.decreases-loop-token
decreases-loop-token l = length l.rest
