-- Texts (RFC 1436, appendix: TextFile Entity).
use Rattle.std.specs.Prelude.{◌≡◌, ℕ, Bool, true, false, not, ◌==◌, ◌&&◌, List, [], ◌∷◌, ◌++◌, codes, map, length, All, Option, MatchOption, if◌then◌else◌}
use Rattle.std.specs.List.{flat_map}
use Rattle.std.specs.Global.{Vec}
use Rattle.std.specs.Vec.{vec_items}
use Rattle.gopher_bytes.specs.Lines.{any_last_line, lines_before_last, lines_of}
use Rattle.gopher_text.specs.Line.{has_feed}
use denote.Ref.{Bor}

abbrev pub begins_with_period : List ℕ → Bool
begins_with_period [] = false
begins_with_period (byte ∷ bytes) = byte == 46

-- a line as it is sent: a line that begins with a period gets one more in front
abbrev pub line_sent : List ℕ → List ℕ
line_sent line = if begins_with_period line then 46 ∷ line else line

-- a line as it is read: a line that begins with two periods loses one
abbrev pub line_read : List ℕ → List ℕ
line_read [] = []
line_read (byte ∷ bytes) = if (byte == 46) && begins_with_period bytes then bytes else byte ∷ bytes

-- the bytes of a line as it is sent
abbrev pub text_line_bytes : List ℕ → List ℕ
text_line_bytes line = line_sent line ++ codes "\r\n"

-- the bytes of a text as it is sent: its lines, and a line with a single period (46)
abbrev pub text_bytes : List (List ℕ) → List ℕ
text_bytes lines = flat_map text_line_bytes lines ++ codes ".\r\n"

-- the lines that these vectors hold
abbrev pub lines_in : List (Vec ℕ) → List (List ℕ)
lines_in vectors = map vec_items vectors

-- the lines of a text, up to the first last line
abbrev pub text_lines : List ℕ → List (List ℕ)
text_lines bytes = map line_read (lines_before_last (lines_of bytes))

-- the result of reading a text: its lines, and whether a single period ended it
pub record ReadsText (bytes : List ℕ) (lines : List (List ℕ)) (ended : Bool) : Type 0 where
  pub all_lines : lines ≡ text_lines bytes
  pub is_ended : ended ≡ any_last_line (lines_of bytes)

-- the text of these lines is read as the same lines, ended
abbrev pub IsReadBack : List (List ℕ) → Type 0
IsReadBack lines = ReadsText (text_bytes lines) lines true

-- a text is its first line, as it is read, and the text of the bytes after the line's end; if
-- nothing is given, it has no line
abbrev pub CutsTextLine : List ℕ → Option (Bor (List ℕ) × Bor (List ℕ)) → Type 0
CutsTextLine bytes given =
    MatchOption given (text_lines bytes ≡ [])
    (λ parts. text_lines bytes ≡ parts.0.now ∷ text_lines parts.1.now)

-- a single period ends the text of these bytes exactly if it ends that of the bytes after the first
-- line; if nothing is given, exactly if there are bytes
abbrev pub EndsLikeRest : List ℕ → Option (Bor (List ℕ) × Bor (List ℕ)) → Type 0
EndsLikeRest bytes given =
    MatchOption given (any_last_line (lines_of bytes) ≡ not (length bytes == 0))
    (λ parts. any_last_line (lines_of bytes) ≡ any_last_line (lines_of parts.1.now))

-- no line contains an LF
abbrev pub HoldNoFeed : List (List ℕ) → Type 0
HoldNoFeed lines = All (λ line. has_feed line ≡ false) lines
