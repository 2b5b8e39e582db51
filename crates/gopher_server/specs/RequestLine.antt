-- The line of a request: six fields, separated by TABs.
use Rattle.std.specs.Prelude.{ℕ, ◌+◌, ◌/◌, ◌%◌, Bool, false, not, ◌&&◌, ◌==◌, nat_le, nat_lt, if◌then◌else◌, Some, List, [], ◌∷◌, ◌++◌, codes, drop}
use Rattle.std.specs.Fmt.{decimal}
use Rattle.std.specs.List.{flat_map}
use Rattle.gopher_item.specs.Menu.{fields_of, first_field}
use Rattle.jiff_core.specs.declared.civil.datetime.DateTime.{DateTime}
use Rattle.jiff_fmt.specs.Text.{datetime_text}

-- a request: when it ended, the client's address, the line that was asked, the number of bytes that
-- were sent, and the microseconds that it took
pub record RequestData : Type 0 where
  pub ended : DateTime
  pub peer : List ℕ
  pub asked : List ℕ
  pub sent : ℕ
  pub micros : ℕ

abbrev pub request_with : DateTime → List ℕ → List ℕ → ℕ → ℕ → RequestData
request_with ended peer asked sent micros =
    record { ended = ended; peer = peer; asked = asked; sent = sent; micros = micros }

-- the part of a line before its first TAB
abbrev pub selector_of : List ℕ → List ℕ
selector_of asked = first_field (fields_of asked)

-- the part of a line between its first TAB and the second; nothing if it has no TAB
abbrev pub search_of : List ℕ → List ℕ
search_of asked = first_field (drop 1 (fields_of asked))

-- 2001-02-03T04:05:06.000789Z: capitals, a T (84) between day and time, and microseconds (RFC
-- 3339, section 5.6)
abbrev pub moment_bytes : DateTime → List ℕ
moment_bytes moment = datetime_text false 84 (Some 6) moment ++ codes "Z"

-- a printable ASCII byte other than the backslash
abbrev pub is_plain : ℕ → Bool
is_plain byte = nat_le 32 byte && nat_le byte 126 && not (byte == 92)

abbrev pub hex_digit : ℕ → ℕ
hex_digit number = if nat_lt number 10 then 48 + number else 87 + number

-- a plain byte is written as it is; any other is a backslash, x, and its two hexadecimal digits
abbrev pub escaped_byte : ℕ → List ℕ
escaped_byte byte =
    if is_plain byte then byte ∷ []
    else 92 ∷ 120 ∷ hex_digit (byte / 16) ∷ hex_digit (byte % 16) ∷ []

abbrev pub escaped : List ℕ → List ℕ
escaped bytes = flat_map escaped_byte bytes

abbrev pub asked_bytes : List ℕ → List ℕ
asked_bytes asked = escaped (selector_of asked) ++ codes "\t" ++ escaped (search_of asked)

abbrev pub numbers_bytes : ℕ → ℕ → List ℕ
numbers_bytes sent micros = codes "\t" ++ decimal sent ++ codes "\t" ++ decimal micros

abbrev pub logged_bytes : RequestData → List ℕ
logged_bytes request =
    moment_bytes request.ended ++ codes "\t" ++ escaped request.peer ++ codes "\t"
    ++ asked_bytes request.asked
    ++ numbers_bytes request.sent request.micros ++ codes "\n"
