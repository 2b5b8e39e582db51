use Rattle.std.proofs.Common.{◌≡◌, ◌+◌, ◌≤◌, ◌⊎◌}
use Rattle.gopher_page.specs.Page.{postings_len}
use Rattle.gopher_page.proofs.counts.Counts.postings_len.Given as goal

abbrev pub invariant-loop-count : goal.invariant-loop-count
invariant-loop-count l = record {
  most : l.postings + postings_len l.count-iterator ≤ postings_len l.self;
  exact : (l.postings + postings_len l.count-iterator ≡ postings_len l.self) ⊎ (18446744073709551615 ≤ l.postings);
}
