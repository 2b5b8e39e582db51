-- A conversation stops as its last step says.
use Rattle.std.proofs.Common.{◌≡◌, ℕ, ◌<◌, ◌≤◌, inl, inr, Bool, true, false, List, Option, nat_lt, refl, sym, ap, ◌∙◌, subst, arith}
use Rattle.std.proofs.lemmas.Bool.Decides.{nat_tests}
use Rattle.gopher_text.specs.Watched.{WatchedData, CountsFailure, HasFailed}
use Rattle.gopher_serve.specs.Talk.{Talk, Gathers, Asks, IsTooLong, LacksMemory, Responds, IsAnswering, unsent_of}
use Rattle.gopher_serve.specs.Advance.{IsProgressAfter, Stops}
use Rattle.gopher_serve.specs.declared.advancing.Progress.{Progress}
use Rattle.gopher_serve.specs.declared.advancing.Progress.TheVariants.{Done, Paused, Works, Waits, Failed}
use Rattle.gopher_serve.specs.declared.fault.ServeFault.{ServeFault}
use Rattle.gopher_serve.specs.declared.fault.ServeFault.TheVariants.{LineTooLong, ReadFailed, TooManyTurns, WriteFailed, NoMemory}
use Rattle.gopher_serve.proofs.StepLemmas.{Steps}

-- ---- failures are counted

counted : (a b : ℕ) → CountsFailure a b → a ≤ b
counted a b (inl (less, is)) = omega (arith, is)
counted a b (inr (most, is)) = omega (arith, is)

has_failed : (a b : ℕ) → CountsFailure a b → HasFailed a b
has_failed a b (inl (less, is)) = inl (omega (arith, is))
has_failed a b (inr (most, is)) = inr most

same_count : {D : Type 0} (old new : WatchedData D) → new ≡ old → old.failures ≤ new.failures
same_count {D = D} old new same = let is : new.failures ≡ old.failures = ap (λ (s : WatchedData D). s.failures) same in omega (arith, is)

module _ {R A W : Type 0} (remaining : R → Option (List ℕ)) (gives : A → A → List ℕ → List ℕ → Type 0) (contents : W → Option (List ℕ)) where
  pub steps_count : (talk next : Talk) (had left : WatchedData R) (a b : A) (before after : WatchedData W) (turn : Progress)
      → Steps remaining gives contents talk next had left a b before after turn → (had.failures ≤ left.failures) × (before.failures ≤ after.failures)
  steps_count (Gathers bytes) next had left a b before after turn (inl (piece, how), answers, writer) = (omega (arith, piece.count), same_count before after writer)
  steps_count (Gathers bytes) next had left a b before after turn (inr (inl (end, how)), answers, writer) = (omega (arith, end.count), same_count before after writer)
  steps_count (Gathers bytes) next had left a b before after turn (inr (inr (still, how)), answers, writer) = (counted _ _ still.count, same_count before after writer)
  steps_count (Asks line) next had left a b before after turn (reader, replied, writer) = (same_count had left reader, same_count before after writer)
  steps_count IsTooLong next had left a b before after turn (reader, (fails, same, answers), writer) = (same_count had left reader, same_count before after writer)
  steps_count LacksMemory next had left a b before after turn (reader, (fails, same, answers), writer) = (same_count had left reader, same_count before after writer)
  steps_count (Responds line reply steps count) next had left a b before after turn (reader, answers, inl (talk, ready, none, same, how)) = (same_count had left reader, same_count before after same)
  steps_count (Responds line reply steps count) next had left a b before after turn (reader, answers, inr (inl (some, how))) = (same_count had left reader, omega (arith, some.counted))
  steps_count (Responds line reply steps count) next had left a b before after turn (reader, answers, inr (inr (inl (searches, talk, same, how)))) = (same_count had left reader, same_count before after same)
  steps_count (Responds line reply steps count) next had left a b before after turn (reader, answers, inr (inr (inr (still, how)))) = (same_count had left reader, counted _ _ still.count)

-- ---- the last step

-- a call failed, and isn't made again at once
still_stop : {R W : Type 0} (fault : ServeFault) (next : Talk) (r0 r1 : WatchedData R) (b0 b1 : WatchedData W) (turn : Progress) → IsProgressAfter fault turn
    → Stops next r0 r1 b0 b1 Waits → Stops next r0 r1 b0 b1 (Failed fault) → (turn ≡ Paused → ⊥) → Stops next r0 r1 b0 b1 turn
still_stop fault next r0 r1 b0 b1 Done never waits fails ends = absurd never
still_stop fault next r0 r1 b0 b1 Paused how waits fails ends = absurd (ends refl)
still_stop fault next r0 r1 b0 b1 Works never waits fails ends = absurd never
still_stop fault next r0 r1 b0 b1 Waits how waits fails ends = waits
still_stop fault next r0 r1 b0 b1 (Failed why) how waits fails ends = subst (λ (f : ServeFault). Stops next r0 r1 b0 b1 (Failed f)) (sym how) fails

module _ {R A W : Type 0} (remaining : R → Option (List ℕ)) (gives : A → A → List ℕ → List ℕ → Type 0) (contents : W → Option (List ℕ)) where
  pub steps_stop : (talk next : Talk) (had left : WatchedData R) (a b : A) (before after : WatchedData W) (turn : Progress)
      → Steps remaining gives contents talk next had left a b before after turn → (turn ≡ Paused → ⊥) → Stops next had left before after turn
  steps_stop (Gathers bytes) next had left a b before after turn (inl (piece, how), answers, writer) ends = absurd (ends how)
  steps_stop (Gathers bytes) next had left a b before after turn (inr (inl (end, how)), answers, writer) ends = absurd (ends how)
  steps_stop (Gathers bytes) next had left a b before after turn (inr (inr (still, how)), answers, writer) ends =
      let failed = has_failed _ _ still.count in
      still_stop ReadFailed next had left before after turn how (inl failed) failed ends
  steps_stop (Asks line) next had left a b before after turn (reader, inl (reply, steps, gave, is, inl (how, ready)), writer) ends = absurd (ends how)
  steps_stop (Asks line) next had left a b before after turn (reader, inl (reply, steps, gave, is, inr (how, searches)), writer) ends = subst (Stops next had left before after) (sym how) (subst IsAnswering (sym is) tt)
  steps_stop (Asks line) next had left a b before after turn (reader, inr (same, how), writer) ends = subst (Stops next had left before after) (sym how) tt
  steps_stop IsTooLong next had left a b before after turn (reader, (fails, same, answers), writer) ends = subst (Stops next had left before after) (sym fails) same
  steps_stop LacksMemory next had left a b before after turn (reader, (fails, same, answers), writer) ends = subst (Stops next had left before after) (sym fails) tt
  steps_stop (Responds line reply steps count) next had left a b before after turn (reader, answers, inl (talk, ready, none, same, how)) ends = subst (Stops next had left before after) (sym how) (subst IsAnswering (sym talk) tt, ap unsent_of talk ∙ none)
  steps_stop (Responds line reply steps count) next had left a b before after turn (reader, answers, inr (inl (some, inl how))) ends = absurd (ends how)
  steps_stop (Responds line reply steps count) next had left a b before after turn (reader, answers, inr (inl (some, inr (how, none)))) ends = subst (Stops next had left before after) (sym how) (subst IsAnswering (sym some.is) tt, none)
  steps_stop (Responds line reply steps count) next had left a b before after turn (reader, answers, inr (inr (inl (searches, talk, same, inl (how, fewer))))) ends = subst (Stops next had left before after) (sym how) (subst IsAnswering (sym talk) tt)
  steps_stop (Responds line reply steps count) next had left a b before after turn (reader, answers, inr (inr (inl (searches, talk, same, inr (how, kept))))) ends = subst (Stops next had left before after) (sym how) tt
  steps_stop (Responds line reply steps count) next had left a b before after turn (reader, answers, inr (inr (inr (still, how)))) ends =
      let failed = has_failed _ _ still.count in
      still_stop WriteFailed next had left before after turn how (inr failed) failed ends

-- ---- from an earlier state on

failed_since : (x y z : ℕ) → x ≤ y → y ≤ z → HasFailed y z → HasFailed x z
failed_since x y z low high (inl less) = inl (omega (arith, low, less))
failed_since x y z low high (inr most) = by (nat_lt x y) refl
  where
    by : (less : Bool) → nat_lt x y ≡ less → HasFailed x z
    by true e = let more : x < y = grind (arith, nat_tests) in inl (omega (arith, more, high))
    by false e = let same : y ≤ x = grind (arith, nat_tests) in inr (omega (arith, same, low, most))

pub stops_since : {R W : Type 0} (talk : Talk) (r0 r1 r2 : WatchedData R) (w0 w1 w2 : WatchedData W) (turn : Progress)
    → r0.failures ≤ r1.failures → r1.failures ≤ r2.failures → w0.failures ≤ w1.failures → w1.failures ≤ w2.failures
    → Stops talk r1 r2 w1 w2 turn → Stops talk r0 r2 w0 w2 turn
stops_since talk r0 r1 r2 w0 w1 w2 Done a b c d stops = stops
stops_since talk r0 r1 r2 w0 w1 w2 Paused a b c d never = absurd never
stops_since talk r0 r1 r2 w0 w1 w2 Works a b c d stops = stops
stops_since talk r0 r1 r2 w0 w1 w2 Waits a b c d (inl read) = inl (failed_since r0.failures r1.failures r2.failures a b read)
stops_since talk r0 r1 r2 w0 w1 w2 Waits a b c d (inr write) = inr (failed_since w0.failures w1.failures w2.failures c d write)
stops_since talk r0 r1 r2 w0 w1 w2 (Failed LineTooLong) a b c d stops = stops
stops_since talk r0 r1 r2 w0 w1 w2 (Failed ReadFailed) a b c d read = failed_since r0.failures r1.failures r2.failures a b read
stops_since talk r0 r1 r2 w0 w1 w2 (Failed TooManyTurns) a b c d stops = stops
stops_since talk r0 r1 r2 w0 w1 w2 (Failed WriteFailed) a b c d write = failed_since w0.failures w1.failures w2.failures c d write
stops_since talk r0 r1 r2 w0 w1 w2 (Failed NoMemory) a b c d stops = tt
