use Rattle.std.proofs.Common.{◌≡◌, ℕ, ◌+◌, ◌<◌, cond, length, max, get_or, take}
use Rattle.std.specs.Prelude.{nat_lt}
use Rattle.std.specs.List.{zip}
use Rattle.gopher_segment.specs.Postings.{count_in}
use Rattle.gopher_index.proofs.joined.raise_listed.Given as goal

abbrev pub invariant-loop-index : goal.invariant-loop-index
invariant-loop-index l = (k : ℕ) → k < length l.verdicts → get_or l.verdicts k 0 ≡ max (get_or l.initial.verdicts k 0) (cond (nat_lt 0 (count_in (l.postings.first + k) (take l.index (zip l.postings.numbers.now l.postings.counts.now)))) l.holds 0)
