-- The lines of bytes.
use Rattle.std.specs.Prelude.{◌≡◌, ◌==◌, ℕ, Bool, false, List, [], ◌∷◌, ◌++◌, codes, Option, MatchOption, nat_eq}
use Rattle.std.specs.Borrow.{Bor}
use Rattle.std.specs.Io.BufRead.{drop_through}
use Rattle.std.specs.Cmp.Lexicographic.{pointwise}
use Rattle.std.specs.List.{before_first, list_any, slice_split}
use Rattle.std.specs.Str.Lines.{lines}

-- each LF ends a line, and one CR directly before an LF is part of the end; bytes after the last LF
-- are a line of their own, with all their bytes; RFC 1436 (section 2) ends lines with CR LF, a lone
-- LF is this profile's
abbrev pub lines_of : List ℕ → List (List ℕ)
lines_of bytes = lines bytes

-- a single period, which ends a menu and a text (RFC 1436, appendix: Lastline)
abbrev pub is_last_line : List ℕ → Bool
is_last_line line = pointwise nat_eq line (codes ".")

-- the lines before the first last line
abbrev pub lines_before_last : List (List ℕ) → List (List ℕ)
lines_before_last lines = before_first is_last_line lines

-- one of the lines is a last line
abbrev pub any_last_line : List (List ℕ) → Bool
any_last_line lines = list_any is_last_line lines

-- the pieces of the bytes between occurrences of this byte
abbrev pub cut_at : ℕ → List ℕ → List (List ℕ)
cut_at byte bytes = slice_split (λ b. b == byte) bytes

-- the bytes contain the byte
abbrev pub has_byte : ℕ → List ℕ → Bool
has_byte byte bytes = list_any (λ b. b == byte) bytes

-- the bytes contain an LF
abbrev pub has_feed : List ℕ → Bool
has_feed bytes = has_byte 10 bytes

-- the bytes begin with `front` and end with `back`, which don't overlap
abbrev pub IsAround : List ℕ → List ℕ → List ℕ → Type 0
IsAround bytes front back = (between : List ℕ) × (bytes ≡ front ++ (between ++ back))

-- ---- cuts

-- the first of the pieces of the bytes, and the bytes after it, which have the other pieces
abbrev pub IsFirstOf : (List ℕ → List (List ℕ)) → List ℕ → Bor (List ℕ) × Bor (List ℕ) → Type 0
IsFirstOf pieces bytes parts = pieces bytes ≡ parts.0.now ∷ pieces parts.1.now

-- the bytes before a cut at this byte are the first piece, and those after it have the other
-- pieces; without a cut, all bytes are one piece
abbrev pub CutsOnce : ℕ → List ℕ → Option (Bor (List ℕ) × Bor (List ℕ)) → Type 0
CutsOnce byte bytes cut =
    MatchOption cut (cut_at byte bytes ≡ bytes ∷ []) (IsFirstOf (cut_at byte) bytes)

-- the bytes before a cut, or all bytes without one, don't contain this byte
abbrev pub CutsAtFirst : ℕ → List ℕ → Option (Bor (List ℕ) × Bor (List ℕ)) → Type 0
CutsAtFirst byte bytes cut =
    MatchOption cut (has_byte byte bytes ≡ false) (λ parts. has_byte byte parts.0.now ≡ false)

-- the bytes after a cut are all those after the first such byte; without a cut, there are none
abbrev pub LeavesRest : ℕ → List ℕ → Option (Bor (List ℕ) × Bor (List ℕ)) → Type 0
LeavesRest byte bytes cut =
    MatchOption cut (drop_through byte bytes ≡ []) (λ parts. parts.1.now ≡ drop_through byte bytes)
