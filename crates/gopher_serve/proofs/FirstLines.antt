-- The first line of bytes, where it is at its end and where it isn't.
use Rattle.std.proofs.Common.{◌≡◌, ℕ, zero, suc, ◌+◌, ◌-◌, ◌<◌, ◌≤◌, ◌⊎◌, inl, inr, Bool, true, false, ◌||◌, eqb, List, [], ◌∷◌, ◌++◌, length, get_or, take, drop, nat_le, nat_lt, refl, sym, ap, ◌∙◌, subst, arith, append-nil, append_assoc, length-append, take-append-drop, length-take, Some, ◌==◌, if◌then◌else◌}
use Rattle.std.specs.Io.BufRead.{take_through, ends_with_byte, strip_last, first_line}
use Rattle.std.proofs.Math.Seq.{get_or-append_seam}
use Rattle.std.proofs.lemmas.List.{take_at}
use Rattle.std.proofs.lemmas.List.Folds.{list_any-append}
use Rattle.std.proofs.lemmas.Bool.{or_left, or_parts, or_right}
use Rattle.std.proofs.lemmas.Bool.Decides.{nat_tests}
use Rattle.gopher_text.specs.Line.{has_feed, without_end}
use Rattle.gopher_text.proofs.LineLemmas.{long_line_begun, unfed_end}
use Rattle.gopher_serve.specs.Talk.{Gathers, IsTooLong, is_known, known_line, talk_of}

-- what there is before the first LF
pub take_through_at_first : (bytes : List ℕ) (end : ℕ) → end < length bytes → has_feed (take end bytes) ≡ false → eqb (get_or bytes end 0) 10 ≡ true
    → take_through 10 bytes ≡ take end bytes ++ 10 ∷ []
take_through_at_first [] end within unfed here = absurd (omega arith)
take_through_at_first (byte ∷ bytes) zero within unfed here =
    let same : byte ≡ 10 = grind (arith, nat_tests) in
    rw (same) refl
take_through_at_first (byte ∷ bytes) (suc end) within unfed here =
    let both = or_parts (byte == 10) (has_feed (take end bytes)) unfed in
    rw (both.0) (ap (λ l. byte ∷ l) (take_through_at_first bytes end (omega arith) both.1 here))

pub take_through_unfed : (front rest : List ℕ) → has_feed front ≡ false → take_through 10 (front ++ rest) ≡ front ++ take_through 10 rest
take_through_unfed [] rest unfed = refl
take_through_unfed (byte ∷ front) rest unfed =
    let both = or_parts (byte == 10) (has_feed front) unfed in
    rw (both.0, take_through_unfed front rest both.1) refl

-- a byte that was pushed is the last, and is stripped
ends_pushed : (front : List ℕ) (byte : ℕ) → ends_with_byte byte (front ++ byte ∷ []) ≡ true
ends_pushed front byte =
    let size : length (front ++ byte ∷ []) ≡ length front + 1 = omega (arith, length-append front (byte ∷ [])) in
    let less : length (front ++ byte ∷ []) - 1 ≡ length front = omega arith in
    let some : nat_lt 0 (length (front ++ byte ∷ [])) ≡ true = grind (arith, nat_tests) in
    let last : get_or (front ++ byte ∷ []) (length front) 0 ≡ byte = get_or-append_seam front byte [] 0 in
    let same : (byte == byte) ≡ true = grind (arith, nat_tests) in
    rw (some, less, last) same

strip_pushed : (front : List ℕ) (byte : ℕ) → strip_last byte (front ++ byte ∷ []) ≡ front
strip_pushed front byte =
    let less : length (front ++ byte ∷ []) - 1 ≡ length front = omega (arith, length-append front (byte ∷ [])) in
    let ends = ends_pushed front byte in
    rw (ends, less) (take_at front (byte ∷ []) (length front) refl)

-- the line ends at its LF
pub first_line-fed : (bytes front : List ℕ) → take_through 10 bytes ≡ front ++ 10 ∷ [] → first_line bytes ≡ strip_last 13 front
first_line-fed bytes front through =
    ap without_end through
    ∙ ap (λ b. if b then strip_last 13 (strip_last 10 (front ++ 10 ∷ [])) else strip_last 10 (front ++ 10 ∷ [])) (ends_pushed front 10)
    ∙ ap (strip_last 13) (strip_pushed front 10)

-- bytes without LF are a line as they are
pub first_line-unfed : (bytes : List ℕ) → has_feed bytes ≡ false → first_line bytes ≡ bytes
first_line-unfed bytes unfed =
    let through : take_through 10 bytes ≡ bytes = sym (ap (take_through 10) (append-nil bytes)) ∙ take_through_unfed bytes [] unfed ∙ append-nil bytes in
    let none = unfed_end bytes unfed in
    rw (through, none) refl

-- ---- a line that is too long, whatever follows

-- what there is up to the first LF, if there is one
take_through_fed : (bytes rest : List ℕ) → has_feed bytes ≡ true → take_through 10 (bytes ++ rest) ≡ take_through 10 bytes
take_through_fed [] rest fed = absurd cc
take_through_fed (byte ∷ bytes) rest fed = by (byte == 10) refl (take_through_fed bytes rest)
  where
    by : (test : Bool) → (byte == 10) ≡ test → (has_feed bytes ≡ true → take_through 10 (bytes ++ rest) ≡ take_through 10 bytes)
        → take_through 10 ((byte ∷ bytes) ++ rest) ≡ take_through 10 (byte ∷ bytes)
    by true e same = rw e refl
    by false e same =
        let later : has_feed bytes ≡ true = sym (ap (λ t. t || has_feed bytes) e) ∙ fed in
        rw e (ap (λ l. byte ∷ l) (same later))

pub first_line-known : (bytes rest : List ℕ) → has_feed bytes ≡ true → first_line (bytes ++ rest) ≡ first_line bytes
first_line-known bytes rest fed = ap without_end (take_through_fed bytes rest fed)

le_false : (m n : ℕ) → n < m → nat_le m n ≡ false
le_false m n more = grind (arith, nat_tests)

known_long : (line : List ℕ) → 1024 < length line → known_line line ≡ IsTooLong
known_long line long = let no = le_false (length line) 1024 long in rw no refl

long_unfed : (bytes rest : List ℕ) → has_feed bytes ≡ false → 1026 ≤ length bytes → 1024 < length (first_line (bytes ++ rest))
long_unfed bytes rest unfed long =
    let front : List ℕ = take 1026 bytes in
    let later : List ℕ = drop 1026 bytes in
    let split : bytes ++ rest ≡ front ++ (later ++ rest) = ap (λ l. l ++ rest) (sym (take-append-drop 1026 bytes)) ∙ append_assoc front later rest in
    let parts = or_parts (has_feed front) (has_feed later) (sym (list_any-append (λ byte. byte == 10) front later) ∙ ap has_feed (take-append-drop 1026 bytes) ∙ unfed) in
    (long_line_begun (Some (bytes ++ rest)) (Some (later ++ rest)) front split parts.0 (omega (arith, length-take 1026 bytes))).0

-- ---- what follows once a line is known changes nothing

known_cases : (bytes : List ℕ) → is_known false bytes ≡ true → (has_feed bytes ≡ true) ⊎ ((has_feed bytes ≡ false) × (1026 ≤ length bytes))
known_cases bytes known = by (has_feed bytes) refl
  where
    by : (fed : Bool) → has_feed bytes ≡ fed → (has_feed bytes ≡ true) ⊎ ((has_feed bytes ≡ false) × (1026 ≤ length bytes))
    by true e = inl e
    by false e =
        let long : nat_le 1026 (length bytes) ≡ true = sym (ap (λ t. t || nat_le 1026 (length bytes)) e) ∙ known in
        inr (e, grind (arith, nat_tests))

pub known_once : (bytes rest : List ℕ) → is_known false bytes ≡ true → known_line (first_line (bytes ++ rest)) ≡ known_line (first_line bytes)
known_once bytes rest known = by (known_cases bytes known)
  where
    by : (has_feed bytes ≡ true) ⊎ ((has_feed bytes ≡ false) × (1026 ≤ length bytes)) → known_line (first_line (bytes ++ rest)) ≡ known_line (first_line bytes)
    by (inl fed) = ap known_line (first_line-known bytes rest fed)
    by (inr (unfed, many)) =
        known_long _ (long_unfed bytes rest unfed many)
        ∙ sym (known_long _ (subst (λ l. 1024 < length (first_line l)) (append-nil bytes) (long_unfed bytes [] unfed many)))

is_known_more : (bytes rest : List ℕ) → is_known false bytes ≡ true → is_known false (bytes ++ rest) ≡ true
is_known_more bytes rest known = by (known_cases bytes known)
  where
    by : (has_feed bytes ≡ true) ⊎ ((has_feed bytes ≡ false) × (1026 ≤ length bytes)) → is_known false (bytes ++ rest) ≡ true
    by (inl fed) =
        let more : has_feed (bytes ++ rest) ≡ true = list_any-append (λ byte. byte == 10) bytes rest ∙ ap (λ t. t || has_feed rest) fed in
        or_left (has_feed (bytes ++ rest)) (nat_le 1026 (length (bytes ++ rest))) more
    by (inr (unfed, many)) =
        let longer : 1026 ≤ length (bytes ++ rest) = omega (arith, length-append bytes rest) in
        or_right (has_feed (bytes ++ rest)) (nat_le 1026 (length (bytes ++ rest))) (grind (arith, nat_tests))

-- a piece of which so many bytes are gathered, since the line is known then
pub heard_known : (bytes piece : List ℕ) (count : ℕ) → is_known false (bytes ++ take count piece) ≡ true
    → talk_of false (bytes ++ piece) ≡ known_line (first_line (bytes ++ take count piece))
heard_known bytes piece count known =
    let gathered = bytes ++ take count piece in
    let whole : bytes ++ piece ≡ gathered ++ drop count piece =
    ap (λ l. bytes ++ l) (sym (take-append-drop count piece)) ∙ sym (append_assoc bytes (take count piece) (drop count piece)) in
    ap (talk_of false) whole
    ∙ ap (λ t. if t then known_line (first_line (gathered ++ drop count piece)) else Gathers (gathered ++ drop count piece)) (is_known_more gathered (drop count piece) known)
    ∙ known_once gathered (drop count piece) known
