-- Reading the bytes of a line: what was read, and in how many turns.
use Rattle.std.proofs.Common.{◌≡◌, ℕ, ◌+◌, ◌-◌, ◌<◌, ◌≤◌, Bool, true, false, ◌==◌, List, [], ◌∷◌, ◌++◌, take, length, IfSome, None, Some, Err, refl, sym, subst, ap, ◌∙◌, arith, inl, inr, append-nil, append_assoc, length-append, length-take, if◌then◌else◌}
use Rattle.std.proofs.Math.Seq.{take-append_seam}
use Rattle.std.proofs.lemmas.List.{take_all}
use Rattle.std.proofs.lemmas.List.Folds.{list_any_at}
use Rattle.std.proofs.lemmas.Bool.{and_parts, or_parts, true≢false}
use Rattle.std.proofs.lemmas.Bool.Decides.{nat_tests}
use Rattle.std.specs.declared.option.Option.{Option}
use Rattle.std.specs.Io.KnownBytes.{Consumes}
use Rattle.std.specs.Io.BufRead.{take_through, drop_through, ends_with_byte, strip_last, first_line, DropsThrough}
use Rattle.gopher_text.specs.Reply.{SpendsTurns}
use Rattle.gopher_text.specs.Watched.{WatchedData, HasRead}
use Rattle.gopher_text.specs.Line.{has_feed, without_end, IsWholeLine, StopsInLine, FailsToReadLine}
use Rattle.gopher_text.specs.declared.fault.LineFault.{LineFault}
use Rattle.gopher_text.specs.declared.fault.LineFault.TheVariants.{LineTooLong, ReadFailed, TooManyTurns, NoMemory}

-- the state after some turns: the filled bytes were read and contain no LF, and each turn either
-- took a byte or failed
pub record InLine (old new : Option (List ℕ)) (before after turns filled : ℕ) (held : List ℕ) : Type 0 where
  pub within : filled ≤ 1025
  pub read : Consumes old new (take filled held)
  pub unfed : has_feed (take filled held) ≡ false
  pub rises : before ≤ after
  pub slowly : after + filled ≤ before + turns
  pub spent : SpendsTurns turns before after filled

-- the bytes through the first LF, after bytes without LF
take_through-unfed : (front rest : List ℕ) → has_feed front ≡ false → take_through 10 (front ++ rest) ≡ front ++ take_through 10 rest
take_through-unfed [] rest unfed = refl
take_through-unfed (byte ∷ front) rest unfed =
    let parts = or_parts (byte == 10) (has_feed front) unfed in
    rw (parts.0, take_through-unfed front rest parts.1) refl

drop_through-unfed : (front rest : List ℕ) → has_feed front ≡ false → drop_through 10 (front ++ rest) ≡ drop_through 10 rest
drop_through-unfed [] rest unfed = refl
drop_through-unfed (byte ∷ front) rest unfed =
    let parts = or_parts (byte == 10) (has_feed front) unfed in
    rw (parts.0, drop_through-unfed front rest parts.1) refl

-- a whole line was read, and no byte after it
pub line_read : (old new : Option (List ℕ)) (bytes : List ℕ) → Consumes old new bytes → IsWholeLine new bytes
    → IfSome old (λ all. take_through 10 all ≡ bytes) × DropsThrough old new 10
line_read None new bytes read whole = (tt, tt)
line_read (Some all) None bytes read whole = absurd read
line_read (Some all) (Some left) bytes read (inl fed) = (
  ap (take_through 10) (read ∙ ap (λ l. l ++ left) fed.1 ∙ append_assoc fed.0 (10 ∷ []) left) ∙ take_through-unfed fed.0 (10 ∷ left) fed.2 ∙ sym fed.1,
  sym (ap (λ l. Some (drop_through 10 l)) (read ∙ ap (λ l. l ++ left) fed.1 ∙ append_assoc fed.0 (10 ∷ []) left) ∙ ap Some (drop_through-unfed fed.0 (10 ∷ left) fed.2)),
)
line_read (Some all) (Some left) bytes read (inr ended) =
    let whole : all ≡ bytes ++ [] = read ∙ ap (λ l. bytes ++ l) ended.1 in (
      ap (take_through 10) whole ∙ take_through-unfed bytes [] ended.0 ∙ append-nil bytes,
      ap Some (ended.1 ∙ sym (ap (drop_through 10) whole ∙ drop_through-unfed bytes [] ended.0)),
    )

-- the line is what was read without its end
pub first_line_read : (old : Option (List ℕ)) (bytes line : List ℕ) → IfSome old (λ all. take_through 10 all ≡ bytes) → line ≡ without_end bytes
    → IfSome old (λ all. line ≡ first_line all)
first_line_read None bytes line read same = tt
first_line_read (Some all) bytes line read same = same ∙ ap without_end (sym read)

-- the line is within the limit
pub short_line_read : (old : Option (List ℕ)) (bytes : List ℕ) → IfSome old (λ all. take_through 10 all ≡ bytes) → length (without_end bytes) ≤ 1024
    → IfSome old (λ all. length (first_line all) ≤ 1024)
short_line_read None bytes read short = tt
short_line_read (Some all) bytes read short = subst (λ l. length (without_end l) ≤ 1024) (sym read) short

-- a line that was read is too long
pub long_line_read : (old new : Option (List ℕ)) (bytes : List ℕ) → Consumes old new bytes → IsWholeLine new bytes → length bytes ≤ 1026
    → 1024 < length (without_end bytes)
    → IfSome old (λ all. (1024 < length (first_line all)) × Consumes old new (take 1026 (take_through 10 all)))
long_line_read None new bytes read whole within long = tt
long_line_read (Some all) new bytes read whole within long =
    let through = (line_read (Some all) new bytes read whole).0 in (
      subst (λ l. 1024 < length (without_end l)) (sym through) long,
      subst (λ l. Consumes (Some all) new (take 1026 l)) (sym through) (subst (Consumes (Some all) new) (sym (take_all 1026 bytes within)) read),
    )

-- stripping drops at most one byte, and a line's end has at most two
length-strip_last : (byte : ℕ) (bytes : List ℕ) → length bytes ≤ length (strip_last byte bytes) + 1
length-strip_last byte bytes = by (ends_with_byte byte bytes)
  where
    by : (ends : Bool) → length bytes ≤ length (if ends then take (length bytes - 1) bytes else bytes) + 1
    by true = omega (arith, length-take (length bytes - 1) bytes)
    by false = omega arith

pub length-without_end : (bytes : List ℕ) → length bytes ≤ length (without_end bytes) + 2
length-without_end bytes = by (ends_with_byte 10 bytes)
  where
    by : (ends : Bool) → length bytes ≤ length (if ends then strip_last 13 (strip_last 10 bytes) else strip_last 10 bytes) + 2
    by true = omega (arith, length-strip_last 10 bytes, length-strip_last 13 (strip_last 10 bytes))
    by false = omega (arith, length-strip_last 10 bytes)

-- bytes without LF have no end
pub unfed_end : (bytes : List ℕ) → has_feed bytes ≡ false → ends_with_byte 10 bytes ≡ false
unfed_end bytes unfed = by (ends_with_byte 10 bytes) refl
  where
    by : (ends : Bool) → ends_with_byte 10 bytes ≡ ends → ends ≡ false
    by true e =
        let parts = and_parts _ _ e in
        let some : 0 < length bytes = grind (arith, nat_tests) in
        absurd (true≢false (sym (list_any_at (λ byte. byte == 10) bytes (length bytes - 1) 0 (omega arith) parts.1) ∙ unfed))
    by false e = refl

without_end-unfed : (bytes : List ℕ) → has_feed bytes ≡ false → without_end bytes ≡ bytes
without_end-unfed bytes unfed = let none = unfed_end bytes unfed in rw none refl

long_without_end : (bytes more : List ℕ) → has_feed bytes ≡ false → length bytes ≡ 1026 → 1024 < length (without_end (bytes ++ more))
long_without_end bytes [] unfed long = rw (append-nil bytes, without_end-unfed bytes unfed) (omega arith)
long_without_end bytes (byte ∷ more) unfed long = omega (arith, length-without_end (bytes ++ (byte ∷ more)), length-append bytes (byte ∷ more))

-- 1,026 bytes without LF are too long for a line, whatever follows
pub long_line_begun : (old new : Option (List ℕ)) (bytes : List ℕ) → Consumes old new bytes → has_feed bytes ≡ false → length bytes ≡ 1026
    → IfSome old (λ all. (1024 < length (first_line all)) × Consumes old new (take 1026 (take_through 10 all)))
long_line_begun None new bytes read unfed long = tt
long_line_begun (Some all) None bytes read unfed long = absurd read
long_line_begun (Some all) (Some left) bytes read unfed long =
    let more = take_through 10 left in
    let through : take_through 10 all ≡ bytes ++ more = ap (take_through 10) read ∙ take_through-unfed bytes left unfed in
    let cut : take 1026 (bytes ++ more) ≡ bytes = ap (λ n. take n (bytes ++ more)) (sym long) ∙ take-append_seam bytes more in (
      subst (λ l. 1024 < length (without_end l)) (sym through) (long_without_end bytes more unfed long),
      read ∙ ap (λ l. l ++ left) (sym (ap (take 1026) through ∙ cut)),
    )

-- reading stopped before the line's end
pub line_refused : {R : Type 0} (remaining : R → Option (List ℕ)) (old new : WatchedData R) (bytes : List ℕ) (fault : LineFault)
    → HasRead remaining old new bytes → StopsInLine remaining {T = Unit {0}} old new bytes (Err fault) → FailsToReadLine remaining old new fault
line_refused remaining old new bytes LineTooLong read stop = long_line_begun (remaining old.device) (remaining new.device) bytes read stop.0 stop.1
line_refused remaining old new bytes ReadFailed read stop = (bytes, read, stop)
line_refused remaining old new bytes TooManyTurns read stop = (bytes, read, stop.0, stop.1)
line_refused remaining old new bytes NoMemory read stop = absurd stop
