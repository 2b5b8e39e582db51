-- A conversation that can go on at once comes farther, or a call failed. A search comes nearer its end.
use Rattle.std.proofs.Common.{◌≡◌, ℕ, ◌+◌, ◌-◌, ◌^◌, ◌<◌, ◌≤◌, ◌⊎◌, inl, inr, min, Bool, true, false, ◌||◌, List, [], ◌++◌, Option, length, length-append, nat_le, refl, sym, ap, ◌∙◌, subst, arith}
use Rattle.std.proofs.Math.Nat.{min-le_left, min-le_right, min-eq_left}
use Rattle.std.proofs.lemmas.Bool.Decides.{nat_tests}
use Rattle.std.specs.Io.BufRead.{first_line}
use Rattle.gopher_text.specs.Line.{has_feed}
use Rattle.gopher_text.specs.Watched.{WatchedData, CountsFailure}
use Rattle.gopher_serve.specs.Talk.{Talk, Gathers, Asks, IsTooLong, LacksMemory, Responds, is_known, known_line, IsAnswering, steps_of, talk_of}
use Rattle.gopher_serve.specs.declared.advancing.Progress.TheVariants.{Paused, Works}
use Rattle.gopher_serve.proofs.StepLemmas.{Steps}

-- ---- pauses

-- how far a conversation has come
abbrev pub position : Talk → ℕ
position (Gathers bytes) = min (length bytes) 1026
position (Asks line) = 1027
position IsTooLong = 1027
position LacksMemory = 1027
position (Responds line reply steps sent) = 1028 + sent

-- how far it has come, and how many calls failed
abbrev pub turns : {R W : Type 0} → Talk → WatchedData R → WatchedData W → ℕ
turns talk reader writer = position talk + reader.failures + writer.failures

known_position : (line : List ℕ) → position (known_line line) ≡ 1027
known_position line = by (nat_le (length line) 1024) refl
  where
    by : (short : Bool) → nat_le (length line) 1024 ≡ short → position (known_line line) ≡ 1027
    by true e = rw e refl
    by false e = rw e refl

-- more bytes came in, or the input ended
farther : (ended : Bool) (bytes piece : List ℕ) → (ended ≡ true) ⊎ (0 < length piece) → min (length bytes) 1026 < position (talk_of ended (bytes ++ piece))
farther ended bytes piece more = by (is_known ended (bytes ++ piece)) refl more
  where
    few : min (length bytes) 1026 ≤ 1026
    few = min-le_right (length bytes) 1026

    by : (known : Bool) → is_known ended (bytes ++ piece) ≡ known → (ended ≡ true) ⊎ (0 < length piece) → min (length bytes) 1026 < position (talk_of ended (bytes ++ piece))
    by true e more =
        let is : talk_of ended (bytes ++ piece) ≡ known_line (first_line (bytes ++ piece)) = rw e refl in
        let at = ap position is ∙ known_position (first_line (bytes ++ piece)) in
        omega (arith, at, few)
    by false e (inl end) = absurd (true_is_false (sym (ap (λ t. t || (has_feed (bytes ++ piece) || nat_le 1026 (length (bytes ++ piece)))) end) ∙ e))
      where
        true_is_false : true ≡ false → ⊥
        true_is_false e = absurd cc
    by false e (inr some) =
        let is : talk_of ended (bytes ++ piece) ≡ Gathers (bytes ++ piece) = rw e refl in
        let at = ap position is ∙ min-eq_left {n = length (bytes ++ piece)} {m = 1026} (short (nat_le 1026 (length (bytes ++ piece))) refl ended (has_feed (bytes ++ piece)) e) in
        omega (arith, at, length-append bytes piece, some, min-le_left (length bytes) 1026)
      where
        short : (long : Bool) → nat_le 1026 (length (bytes ++ piece)) ≡ long → (ended fed : Bool) → (ended || (fed || nat_le 1026 (length (bytes ++ piece)))) ≡ false → length (bytes ++ piece) ≤ 1026
        short false l ended fed none = grind (arith, nat_tests)
        short true l false false none = absurd cc
        short true l false true none = absurd cc
        short true l true fed none = absurd cc

count_up : (a b : ℕ) → CountsFailure a b → (b ≡ a + 1) ⊎ (2 ^ 64 - 1 ≤ b)
count_up a b (inl (less, is)) = inl is
count_up a b (inr (most, is)) = inr (omega (arith, is, most))

-- one count of failures goes up, unless it is at its maximum, and the rest of the sum stays
fails : (old new a b rest : ℕ) → CountsFailure a b → old ≡ rest + a → new ≡ rest + b → (old < new) ⊎ (2 ^ 64 - 1 ≤ new)
fails old new a b rest counts was is = by (count_up a b counts)
  where
    by : (b ≡ a + 1) ⊎ (2 ^ 64 - 1 ≤ b) → (old < new) ⊎ (2 ^ 64 - 1 ≤ new)
    by (inl up) = inl (omega (arith, up, was, is))
    by (inr most) = inr (omega (arith, most, is))

-- the steps of its search that are left stay the same
abbrev pub KeepsSteps : Talk → Talk → Type 0
KeepsSteps old new = IsAnswering old → IsAnswering new × (steps_of new ≡ steps_of old)

module _ {R A W : Type 0} (remaining : R → Option (List ℕ)) (gives : A → A → List ℕ → List ℕ → Type 0) (contents : W → Option (List ℕ)) where
  -- each step after which it can go on at once counts, and is no step of a search
  pub pauses : (talk next : Talk) (had left : WatchedData R) (a b : A) (before after : WatchedData W)
      → Steps remaining gives contents talk next had left a b before after Paused
      → KeepsSteps talk next × ((turns talk had before < turns next left after) ⊎ (2 ^ 64 - 1 ≤ turns next left after))
  pauses (Gathers bytes) next had left a b before after (inl (piece, how), answers, writer) =
      (λ responds. absurd responds, inl (omega (arith, piece.count, ap (λ (s : WatchedData W). s.failures) writer, by piece.hears)))
    where
      by : (next ≡ talk_of false (bytes ++ piece.piece)) ⊎ (((held : List ℕ) × (Gathers bytes ≡ Gathers held)) × (next ≡ LacksMemory)) → min (length bytes) 1026 < position next
      by (inl is) = let at = farther false bytes piece.piece (inr piece.some) in omega (arith, at, ap position is)
      by (inr (held, lacks)) = let few = min-le_right (length bytes) 1026 in omega (arith, few, ap position lacks)
  pauses (Gathers bytes) next had left a b before after (inr (inl (end, how)), answers, writer) =
      let at = farther true bytes [] (inl refl) in
      (λ responds. absurd responds, inl (omega (arith, end.count, ap (λ (s : WatchedData W). s.failures) writer, at, ap position end.hears)))
  pauses (Gathers bytes) next had left a b before after (inr (inr (still, how)), answers, writer) = (
    λ responds. absurd responds,
    fails (turns (Gathers bytes) had before) (turns next left after) had.failures left.failures (position (Gathers bytes) + before.failures) still.count
        (omega arith) (omega (arith, ap position still.talk, ap (λ (s : WatchedData W). s.failures) writer)),
  )
  pauses (Asks line) next had left a b before after (reader, inl (reply, steps, gave, is, how), writer) =
      (λ responds. absurd responds, inl (omega (arith, ap (λ (s : WatchedData R). s.failures) reader, ap (λ (s : WatchedData W). s.failures) writer, ap position is)))
  pauses (Asks line) next had left a b before after (reader, inr (same, how), writer) = absurd cc
  pauses IsTooLong next had left a b before after (reader, (fails, same, answers), writer) = absurd cc
  pauses LacksMemory next had left a b before after (reader, (fails, same, answers), writer) = absurd cc
  pauses (Responds line reply steps sent) next had left a b before after (reader, answers, inl (talk', ready, none, same, how)) = absurd cc
  pauses (Responds line reply steps sent) next had left a b before after (reader, answers, inr (inl (some, how))) =
      (λ responds. (subst IsAnswering (sym some.is) tt, ap steps_of some.is), inl (omega (arith, ap (λ (s : WatchedData R). s.failures) reader, some.counted, some.some, ap position some.is)))
  pauses (Responds line reply steps sent) next had left a b before after (reader, answers, inr (inr (inl (searches, talk', same, inl (how, fewer))))) = absurd cc
  pauses (Responds line reply steps sent) next had left a b before after (reader, answers, inr (inr (inl (searches, talk', same, inr (how, kept))))) = absurd cc
  pauses (Responds line reply steps sent) next had left a b before after (reader, answers, inr (inr (inr (still, how)))) = (
    λ responds. (subst IsAnswering (sym still.talk) tt, ap steps_of still.talk),
    fails (turns (Responds line reply steps sent) had before) (turns next left after) before.failures after.failures (1028 + sent + had.failures) still.count
        (omega arith) (omega (arith, ap position still.talk, ap (λ (s : WatchedData R). s.failures) reader)),
  )

-- one more step was counted
pub counts_on : (step was is : ℕ) → step < 2 ^ 64 - 1 → step ≤ was → (was < is) ⊎ (2 ^ 64 - 1 ≤ is) → step + 1 ≤ is
counts_on step was is few so_far (inl more) = omega (arith, so_far, more)
counts_on step was is few so_far (inr most) = omega (arith, few, most)

-- ---- searches

module _ {R A W : Type 0} (remaining : R → Option (List ℕ)) (gives : A → A → List ℕ → List ℕ → Type 0) (contents : W → Option (List ℕ)) where
  -- a search that goes on has fewer steps left
  pub works_near : (talk next : Talk) (had left : WatchedData R) (a b : A) (before after : WatchedData W)
      → Steps remaining gives contents talk next had left a b before after Works → IsAnswering talk → steps_of next < steps_of talk
  works_near (Gathers bytes) next had left a b before after step responds = absurd responds
  works_near (Asks line) next had left a b before after step responds = absurd responds
  works_near IsTooLong next had left a b before after step responds = absurd responds
  works_near LacksMemory next had left a b before after step responds = absurd responds
  works_near (Responds line reply steps sent) next had left a b before after (reader, answers, inl (talk', ready, none, same, how)) responds = absurd cc
  works_near (Responds line reply steps sent) next had left a b before after (reader, answers, inr (inl (some, inl how))) responds = absurd cc
  works_near (Responds line reply steps sent) next had left a b before after (reader, answers, inr (inl (some, inr (how, none)))) responds = absurd cc
  works_near (Responds line reply steps sent) next had left a b before after (reader, answers, inr (inr (inl (searches, talk', same, inl (how, fewer))))) responds = fewer
  works_near (Responds line reply steps sent) next had left a b before after (reader, answers, inr (inr (inl (searches, talk', same, inr (how, kept))))) responds = absurd cc
  works_near (Responds line reply steps sent) next had left a b before after (reader, answers, inr (inr (inr (still, never)))) responds = absurd never

pub keeps_joins : (talk next last : Talk) → KeepsSteps talk next → KeepsSteps next last → KeepsSteps talk last
keeps_joins talk next last first second responds =
    let one = first responds in
    let more = second one.0 in
    (more.0, more.1 ∙ one.1)

-- a search that went on after pauses has fewer steps left than before them
pub works_since : (talk next last : Talk) → KeepsSteps talk next → (IsAnswering next → steps_of last < steps_of next) → IsAnswering talk → steps_of last < steps_of talk
works_since talk next last keeps nears responds =
    let kept = keeps responds in
    omega (arith, kept.1, nears kept.0)
