-- Several reads or writes of known bytes, and how many turns they took.
use Rattle.std.proofs.Common.{◌≡◌, ℕ, ◌+◌, ◌<◌, ◌≤◌, List, take, drop, length, sym, subst, arith, inl, inr, ◌⊎◌}
use Rattle.std.proofs.Math.Seq.{take-add}
use Rattle.std.specs.declared.option.Option.{Option}
use Rattle.std.specs.Io.KnownBytes.{Appends, Consumes, Keeps}
use Rattle.std.proofs.KnownBytes.{Appends-trans, Consumes-trans, Consumes-kept}
use Rattle.gopher_text.specs.Watched.{CountsFailure}
use Rattle.gopher_text.specs.Reply.{SpendsTurns}

-- the front of a buffer was read before, and then the bytes after it
pub consumes_more : (a b c : Option (List ℕ)) (old new : List ℕ) (filled count : ℕ) → take filled new ≡ take filled old
    → Consumes a b (take filled old) → Consumes b c (take count (drop filled new)) → Consumes a c (take (filled + count) new)
consumes_more a b c old new filled count front before read =
    subst (Consumes a c) (sym (take-add filled count new)) (Consumes-trans a b c _ _ (subst (Consumes a b) (sym front) before) read)

-- the front of a buffer was read before, and then nothing
pub consumes_kept : (a b c : Option (List ℕ)) (old new : List ℕ) (filled : ℕ) → take filled new ≡ take filled old
    → Consumes a b (take filled old) → Keeps b c → Consumes a c (take filled new)
consumes_kept a b c old new filled front before kept = Consumes-kept a b c _ (subst (Consumes a b) (sym front) before) kept

-- the front of the bytes was written before, and then bytes after it
pub appends_more : (a b c : Option (List ℕ)) (bytes : List ℕ) (sent count : ℕ)
    → Appends a b (take sent bytes) → Appends b c (take count (drop sent bytes)) → Appends a c (take (sent + count) bytes)
appends_more a b c bytes sent count before more =
    subst (Appends a c) (sym (take-add sent count bytes)) (Appends-trans a b c _ _ before more)

-- the state of a reading after some turns: the filled bytes were read and are within the limit, and
-- each turn took a byte or failed
pub record Filled (old new : Option (List ℕ)) (before after limit turns filled : ℕ) (bytes : List ℕ) : Type 0 where
  pub within : filled ≤ length bytes
  pub short : length bytes ≤ limit + 1
  pub few : filled ≤ limit
  pub read : Consumes old new (take filled bytes)
  pub rises : before ≤ after
  pub slowly : after ≤ before + turns
  pub spent : SpendsTurns turns before after filled

spent_took : (before between after turns filled count : ℕ) → SpendsTurns turns before between filled → 0 < count → after ≡ between
    → SpendsTurns (turns + 1) before after (filled + count)
spent_took before between after turns filled count (inl full) some same = inl (omega arith)
spent_took before between after turns filled count (inr each) some same = inr (omega arith)

spent_interrupted : (before between after turns filled : ℕ) → SpendsTurns turns before between filled → CountsFailure between after
    → SpendsTurns (turns + 1) before after filled
spent_interrupted before between after turns filled spent (inr full) = inl (omega arith)
spent_interrupted before between after turns filled (inl full) (inl more) = inl (omega arith)
spent_interrupted before between after turns filled (inr each) (inl more) = inr (omega arith)

-- after a turn that took bytes
pub filled_took : (a b c : Option (List ℕ)) (before between after limit turns filled count : ℕ) (old new : List ℕ)
    → Filled a b before between limit turns filled old → take filled new ≡ take filled old → length new ≤ limit + 1
    → Consumes b c (take count (drop filled new)) → 0 < count → filled + count ≤ length new → filled + count ≤ limit → after ≡ between
    → Filled a c before after limit (turns + 1) (filled + count) new
filled_took a b c before between after limit turns filled count old new so_far front short read some fits few same = record {
  within = fits;
  short = short;
  few = few;
  read = consumes_more a b c old new filled count front so_far.read read;
  rises = omega arith;
  slowly = omega arith;
  spent = spent_took before between after turns filled count so_far.spent some same;
}

-- after a turn that was interrupted
pub filled_interrupted : (a b c : Option (List ℕ)) (before between after limit turns filled : ℕ) (old new : List ℕ)
    → Filled a b before between limit turns filled old → take filled new ≡ take filled old → filled ≤ length new → length new ≤ limit + 1
    → Keeps b c → CountsFailure between after
    → Filled a c before after limit (turns + 1) filled new
filled_interrupted a b c before between after limit turns filled old new so_far front within short kept counted = record {
  within = within;
  short = short;
  few = so_far.few;
  read = consumes_kept a b c old new filled front so_far.read kept;
  rises = omega (arith, so_far.rises, counted);
  slowly = omega (arith, so_far.slowly, counted);
  spent = spent_interrupted before between after turns filled so_far.spent counted;
}

-- a write that took bytes isn't counted as failed
pub counts_nothing : (before after taken size : ℕ) → ((taken ≡ 0) × (0 < size) × CountsFailure before after) ⊎ (((0 < taken) ⊎ (size ≡ 0)) × (after ≡ before))
    → (taken ≡ 0 → ⊥) → after ≡ before
counts_nothing before after taken size (inl none) some = absurd (some none.0)
counts_nothing before after taken size (inr took) some = took.1
